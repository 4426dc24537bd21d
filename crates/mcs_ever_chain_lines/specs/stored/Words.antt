-- The words of a line, as the code keeps them.
use Rattle.std.specs.Prelude.{List, ℕ, ◌++◌, codes, decimal}
use Rattle.mcs_ever_chain_lines.specs.declared.word.Word.{Word}
use Rattle.mcs_ever_chain_lines.specs.declared.word.Word.TheVariants.{Number, Listed, Plain, Named}

abbrev pub word_of : Word → List ℕ
word_of (Number n) = decimal n
word_of (Listed n) = decimal n ++ codes ","
word_of (Plain word) = word.now
word_of (Named name) = name.now ++ codes ":"
