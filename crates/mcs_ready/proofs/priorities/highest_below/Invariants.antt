use Rattle.std.proofs.Common.{◌≡◌, ℕ, ◌*◌, ◌<◌, ◌≤◌, false}
use Rattle.mcs_ready.specs.stored.Priorities.{has}
use Rattle.mcs_ready.proofs.priorities.highest_below.Given as goal

abbrev pub invariant-loop-word : goal.invariant-loop-word
invariant-loop-word l = (q : ℕ) → l.word * 64 ≤ q → q < l.end * 64 → has l.words q ≡ false
