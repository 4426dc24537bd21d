use Rattle.std.proofs.Common.{◌≡◌, ◌++◌, ◌∷◌, [], drop, flat_map, decimal}
use Rattle.std.specs.Io.{StartsWith}
use Rattle.mcs_text.specs.Text.{after}
use Rattle.mcs_text.proofs.report.append_counts.Given as goal

abbrev pub invariant-loop-word : goal.invariant-loop-word
invariant-loop-word l = record {
  rest : l.text.items ++ after (flat_map (λ c. c.0.now ∷ decimal c.1 ∷ []) (drop l.word-index l.counts)) ≡ l.fn.text.items ++ after (flat_map (λ c. c.0.now ∷ decimal c.1 ∷ []) l.counts);
  kept : StartsWith l.text.items l.fn.text.items;
}
