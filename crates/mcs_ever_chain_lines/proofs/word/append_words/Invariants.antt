use Rattle.std.proofs.Common.{◌≡◌, ◌++◌, drop, map}
use Rattle.std.specs.Io.{StartsWith}
use Rattle.mcs_text.specs.Text.{after}
use Rattle.mcs_ever_chain_lines.specs.stored.Words.{word_of}
use Rattle.mcs_ever_chain_lines.proofs.word.append_words.Given as goal

abbrev pub invariant-loop-word : goal.invariant-loop-word
invariant-loop-word l = record {
  rest : l.text.items ++ after (map word_of (drop l.word-index l.words)) ≡ l.initial.text.items ++ after (map word_of l.words);
  kept : StartsWith l.text.items l.fn.text.items;
}
