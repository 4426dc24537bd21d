use Rattle.std.proofs.Common.{◌<◌, ◌++◌, take, length, sym, ap, ◌∙◌, arith}
use Rattle.mcs_hints.specs.stored.Marks.{marks_of}
use Rattle.mcs_hints.proofs.Marks.{item_taken, none_left}
use Rattle.mcs_hints.proofs.notes.mark_script.Goals as goal
use Rattle.mcs_hints.proofs.notes.mark_script.Goals.{in-Some, in_default}

pub loop-number-preserved : goal.loop-number-preserved
loop-number-preserved c notes items e =
    let script = c.args.script.now in
    let n = c.loop-number.number in
    let known : n < length script = omega (arith, c.loop-number-test.true, c.len-number-end.ensures.count) in
    elim c.match-get.branch [
      | in-Some w ↦
          w.marks-is
          ∙ w.mark_item.ensures notes (items ++ take n script) (c.loop-number.invariant notes items e)
          ∙ ap (marks_of notes) (item_taken items script n w.in-Some.item known (sym c.get.ensures ∙ w.in-Some.is))
      | in_default w ↦ absurd (none_left script n known (sym c.get.ensures ∙ w.in_default.is))
    ]
