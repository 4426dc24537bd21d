use Rattle.std.proofs.Common.{◌≡◌, ℕ, List, take}
use Rattle.mcs_script.specs.declared.item.Item.{Item}
use Rattle.mcs_hints.specs.stored.Marks.{marks_of, all_marks_of}
use Rattle.mcs_hints.proofs.notes.mark_sources.Given as goal

abbrev pub invariant-loop-source : goal.invariant-loop-source
invariant-loop-source l =
    (notes : ℕ) (items : List Item) → l.initial.marks ≡ marks_of notes items → l.marks ≡ all_marks_of notes items (take l.source-index l.sources)
