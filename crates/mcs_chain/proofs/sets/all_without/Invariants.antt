use Rattle.std.proofs.Common.{◌≡◌, map, take}
use Rattle.mcs_origins.specs.Sets.{without}
use Rattle.mcs_chain.proofs.sets.all_without.Given as goal

abbrev pub invariant-loop-set : goal.invariant-loop-set
invariant-loop-set l = l.left.items ≡ map (without l.answered) (take l.set-index l.sets)
