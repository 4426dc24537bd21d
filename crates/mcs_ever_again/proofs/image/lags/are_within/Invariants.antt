use Rattle.std.proofs.Common.{ℕ, ◌<◌, ◌≤◌, get_or}
use Rattle.mcs_ever_again.proofs.image.lags.are_within.Given as goal

abbrev pub invariant-loop-lag : goal.invariant-loop-lag
invariant-loop-lag l = (k : ℕ) → k < l.lag-index → get_or l.lags k 0 ≤ l.by
