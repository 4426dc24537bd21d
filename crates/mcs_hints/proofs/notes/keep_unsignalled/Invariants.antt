use Rattle.std.proofs.Common.{◌≡◌, ℕ, ◌++◌, List}
use Rattle.std.specs.List.{filter_map}
use Rattle.mcs_script.specs.declared.item.Item.{Item}
use Rattle.mcs_system.specs.declared.part.SourcePart.{SourcePart}
use Rattle.mcs_hints.specs.Numbers.{numbers}
use Rattle.mcs_hints.specs.Notes.{unsignalled}
use Rattle.mcs_hints.specs.stored.Marks.{all_marks_of}
use Rattle.mcs_hints.proofs.notes.keep_unsignalled.Given as goal

abbrev pub invariant-loop-note : goal.invariant-loop-note
invariant-loop-note l =
    (notes : ℕ) (items : List Item) (sources : List SourcePart) → l.marks ≡ all_marks_of notes items sources
    → l.hints.items ≡ l.initial.hints.items ++ filter_map (unsignalled items sources) (numbers l.note)
