use Rattle.std.proofs.Common.{◌≡◌, take}
use Rattle.mcs_way.specs.Sums.{sums_of}
use Rattle.mcs_way.proofs.sums.sums_of.Given as goal

abbrev pub invariant-loop-leg : goal.invariant-loop-leg
invariant-loop-leg l = l.sums ≡ sums_of (take l.leg-index l.legs)
