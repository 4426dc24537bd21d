use Rattle.std.proofs.Common.{◌≡◌, ◌++◌, drop, false, map}
use Rattle.std.specs.Io.{StartsWith}
use Rattle.mcs_fields.specs.Fields.{joined}
use Rattle.mcs_fields.proofs.row.append_joined.Given as goal

abbrev pub invariant-loop-word : goal.invariant-loop-word
invariant-loop-word l = record {
  text : l.text.items ++ joined l.later (map (λ word. word.now) (drop l.word-index l.words))
      ≡ l.initial.text.items ++ joined false (map (λ word. word.now) l.words);
  kept : StartsWith l.text.items l.initial.text.items;
}
