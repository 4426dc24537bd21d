use Rattle.std.proofs.Common.{◌≡◌, ℕ, ◌<◌, get_or}
use Rattle.mcs_ever_again.specs.Lag.{later_refill}
use Rattle.mcs_ever_again.proofs.RefillDates.{no_refill}
use Rattle.mcs_ever_again.proofs.image.budget.refills_are_later.Given as goal

abbrev pub invariant-loop-i : goal.invariant-loop-i
invariant-loop-i l = (k : ℕ) → k < l.i → get_or l.after k no_refill ≡ later_refill l.lag (get_or l.before k no_refill)
