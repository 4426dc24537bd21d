use Rattle.std.proofs.Common.{◌≡◌}
use Rattle.mcs_hints.proofs.Grants.{granted_below}
use Rattle.mcs_hints.proofs.cores.granted.Given as goal

abbrev pub invariant-loop-context : goal.invariant-loop-context
invariant-loop-context l = l.granted ≡ granted_below l.system l.core l.context
