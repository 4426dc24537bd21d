use Rattle.std.proofs.Common.{◌≡◌, ℕ, ◌<◌, ◌≤◌, get_or, length, None}
use Rattle.std.specs.Prelude.{option_map}
use Rattle.mcs_ever.specs.Later.{later_context}
use Rattle.mcs_ever_again.proofs.image.context.context_lags.Given as goal

abbrev pub invariant-loop-i : goal.invariant-loop-i
invariant-loop-i l = record {
  many : length l.lags.items ≡ l.i;
  within : (k : ℕ) → k < l.i → get_or l.lags.items k l.by ≤ l.by;
  later : (k : ℕ) → k < l.i → get_or l.after k None ≡ option_map (later_context (get_or l.lags.items k l.by)) (get_or l.before k None);
}
