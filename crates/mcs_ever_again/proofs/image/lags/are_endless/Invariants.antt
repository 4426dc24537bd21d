use Rattle.std.proofs.Common.{◌≡◌, ◌⊎◌, ℕ, ◌<◌, get_or}
use Rattle.mcs_system.specs.System.{thread_part}
use Rattle.mcs_ever_again.proofs.image.lags.are_endless.Given as goal

abbrev pub invariant-loop-thread : goal.invariant-loop-thread
invariant-loop-thread l = (k : ℕ) → k < l.thread → (get_or l.rounds k 0 ≡ 0) ⊎ ((thread_part l.system k).rounds ≡ 0)
