-- The words of a line, as the code keeps them.
use Rattle.std.specs.Prelude.{List, ℕ, false, ◌++◌, codes, decimal, map}
use Rattle.mcs_fields.specs.Fields.{joined}
use Rattle.mcs_ever_told.specs.declared.line.word.Word.{Word}
use Rattle.mcs_ever_told.specs.declared.line.word.Word.TheVariants.{Number, Plain, Named, Names}

abbrev pub word_of : Word → List ℕ
word_of (Number n) = decimal n
word_of (Plain word) = word.now
word_of (Named name) = name.now ++ codes ":"
word_of (Names names) = joined false (map (λ name. name.now) names.now)
