use Rattle.std.proofs.Common.{◌≡◌, ℕ, ◌<◌, true, [], get_or}
use Rattle.mcs_ever.specs.Closed.{has}
use Rattle.mcs_ever.specs.stored.Makers.{Has}
use Rattle.mcs_ever.proofs.closed.outside.Given as goal

abbrev pub invariant-loop-home : goal.invariant-loop-home
invariant-loop-home l = (home : ℕ) → home < l.home → has l.set home ≡ true → Has l.set (get_or l.makers home [])
