use Rattle.std.proofs.Common.{◌≡◌, ℕ, ◌<◌, get_or}
use Rattle.mcs_ever.specs.Later.{later_dated}
use Rattle.mcs_ever_again.proofs.Releases.{no_release}
use Rattle.mcs_ever_again.proofs.image.queues.releases_are_later.Given as goal

abbrev pub invariant-loop-i : goal.invariant-loop-i
invariant-loop-i l = (k : ℕ) → k < l.i → get_or l.after k no_release ≡ later_dated l.by (get_or l.before k no_release)
