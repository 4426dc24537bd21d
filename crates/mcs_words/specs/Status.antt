-- The exit codes after a command line that was not carried out.
use Rattle.std.specs.Prelude.{ℕ}
use Rattle.mcs_words.specs.declared.asked.WordsFault.{WordsFault}
use Rattle.mcs_words.specs.declared.asked.WordsFault.TheVariants as words

abbrev pub status_of_words : WordsFault → ℕ
status_of_words (words.Help text) = 0
status_of_words (words.Words text) = 2
status_of_words words.NoMemory = 4
