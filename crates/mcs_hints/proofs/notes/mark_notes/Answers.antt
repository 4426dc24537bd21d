use Rattle.std.proofs.Common.{◌≡◌, false, [], length, replicate, drop, refl, ap, ◌∙◌}
use Rattle.std.proofs.lemmas.List.{take_at}
use Rattle.mcs_hints.specs.declared.notes.Mark.{Mark}
use Rattle.mcs_hints.specs.Notes.{items_of}
use Rattle.mcs_hints.specs.stored.Marks.{mark_of, marks_of, all_marks_of}
use Rattle.mcs_hints.proofs.Numbers.{same_for_all}
use Rattle.mcs_hints.proofs.notes.mark_notes.Goals as goal

abbrev none : Mark
none = record { waits = false; signals = false }

pub returns : goal.returns
returns c =
    let n = length c.args.parts.now.notes in
    let begins : c.as_mut_slice.result.now ≡ marks_of n [] =
    c.as_mut_slice.ensures.value ∙ c.in_ok-marks.ensures.items_if_clones_equal (λ y e. e) ∙ ap (λ n. replicate n none) c.len.ensures
    ∙ same_for_all (mark_of []) n none (λ k. refl)
    in
    let threads : c.mark_threads.new.marks ≡ marks_of n (items_of c.args.parts.now.threads) =
    c.mark_threads.ensures n begins ∙ ap (λ threads. marks_of n (items_of threads)) c.as_slice.ensures
    in
    let between : c.as_mut_slice-2.result.now ≡ marks_of n (items_of c.args.parts.now.threads) =
    c.as_mut_slice-2.ensures.value
    ∙ take_at c.mark_threads.new.marks (drop (length c.mark_threads.new.marks) c.in_ok-marks.marks.items) c.in_ok-marks.marks.len
    (c.mark_threads.auto.marks ∙ c.as_mut_slice.ensures.len)
    ∙ threads
    in
    take_at c.mark_sources.new.marks _ c.in_ok-marks.marks.len (c.mark_sources.auto.marks ∙ c.as_mut_slice-2.ensures.len)
    ∙ c.mark_sources.ensures n (items_of c.args.parts.now.threads) between
    ∙ ap (all_marks_of n (items_of c.args.parts.now.threads)) c.as_slice-2.ensures
