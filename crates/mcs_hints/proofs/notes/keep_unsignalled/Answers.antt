use Rattle.std.proofs.Common.{◌≡◌, ◌++◌, false, length, get_or, ap, ◌∙◌, arith}
use Rattle.std.specs.List.{filter_map}
use Rattle.mcs_hints.specs.declared.notes.Mark.{Mark}
use Rattle.mcs_hints.specs.Numbers.{numbers}
use Rattle.mcs_hints.specs.Notes.{unsignalled}
use Rattle.mcs_hints.specs.stored.Marks.{marked_of, unsignalled_by}
use Rattle.mcs_hints.proofs.Numbers.{at_number, length-numbers, kept_more}
use Rattle.mcs_hints.proofs.notes.keep_unsignalled.Goals as goal

abbrev none : Mark
none = record { waits = false; signals = false }

pub loop-note-preserved : goal.loop-note-preserved
loop-note-preserved c notes items sources e =
    let n = c.loop-note.note in
    let l = ap length e ∙ length-numbers (marked_of items sources) notes in
    kept_more (unsignalled items sources) n c.unsignalled.result c.args.hints.now.items c.loop-note.hints.items c.keep.new.hints.items
    (c.loop-note.invariant notes items sources e)
    c.in_ok-keep.ensures
    (c.unsignalled.ensures ∙ ap (unsignalled_by n) (ap (λ marks. get_or marks n none) e ∙ at_number (marked_of items sources) notes n none (omega (arith, l, c.loop-note-test.true))))

pub returns : goal.returns
returns c notes items sources e =
    let l = ap length e ∙ length-numbers (marked_of items sources) notes in
    let all : c.loop-note.note ≡ notes = omega (arith, l, c.loop-note-test.false, c.loop-note.auto.note-end) in
    c.loop-note.invariant notes items sources e ∙ ap (λ n. c.args.hints.now.items ++ filter_map (unsignalled items sources) (numbers n)) all
