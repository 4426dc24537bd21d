use Rattle.std.proofs.Common.{◌≡◌, ℕ, ◌<◌, true}
use Rattle.mcs_ever.specs.Closed.{has}
use Rattle.mcs_ever.proofs.closed.missing.Given as goal

abbrev pub invariant-loop-core : goal.invariant-loop-core
invariant-loop-core l = (core : ℕ) → core < l.core → has l.some core ≡ true → has l.set core ≡ true
