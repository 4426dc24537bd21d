use Rattle.std.proofs.Common.{◌≡◌, map}
use Rattle.mcs_hints.specs.Numbers.{numbers}
use Rattle.mcs_hints.specs.Contexts.{share_of}
use Rattle.mcs_hints.proofs.shares.shares.Given as goal

abbrev pub invariant-loop-context : goal.invariant-loop-context
invariant-loop-context l = l.shares.items ≡ map (share_of l.system) (numbers l.context)
