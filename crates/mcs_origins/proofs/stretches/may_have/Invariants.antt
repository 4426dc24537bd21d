use Rattle.std.proofs.Common.{◌≡◌, take}
use Rattle.mcs_origins.specs.Sets.{without}
use Rattle.mcs_origins.specs.stored.Stretches.{flat}
use Rattle.mcs_origins.proofs.stretches.may_have.Given as goal

abbrev pub invariant-loop-stretch : goal.invariant-loop-stretch
invariant-loop-stretch l = without l.answered (flat (take l.stretch-index l.stretches)) ≡ flat (take l.stretch-index l.stretches)
