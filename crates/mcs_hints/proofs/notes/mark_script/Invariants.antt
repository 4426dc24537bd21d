use Rattle.std.proofs.Common.{◌≡◌, ℕ, ◌++◌, List, take}
use Rattle.mcs_script.specs.declared.item.Item.{Item}
use Rattle.mcs_hints.specs.stored.Marks.{marks_of}
use Rattle.mcs_hints.proofs.notes.mark_script.Given as goal

abbrev pub invariant-loop-number : goal.invariant-loop-number
invariant-loop-number l =
    (notes : ℕ) (items : List Item) → l.initial.marks ≡ marks_of notes items → l.marks ≡ marks_of notes (items ++ take l.number l.script)
