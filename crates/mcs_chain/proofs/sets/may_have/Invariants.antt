use Rattle.std.proofs.Common.{◌≡◌, [], map, set, take}
use Rattle.mcs_origins.specs.Sets.{without}
use Rattle.mcs_chain.proofs.sets.may_have.Given as goal

abbrev pub invariant-loop-i : goal.invariant-loop-i
invariant-loop-i l = map (without l.answered) (take l.i (set l.sets l.number [])) ≡ take l.i (set l.sets l.number [])
