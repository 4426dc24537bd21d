use Rattle.std.proofs.Common.{◌≡◌, take}
use Rattle.mcs_origins.specs.Sets.{taken}
use Rattle.mcs_origins.specs.stored.Stretches.{flat}
use Rattle.mcs_origins.proofs.stretches.all_taken.Given as goal

abbrev pub invariant-loop-stretch : goal.invariant-loop-stretch
invariant-loop-stretch l = flat l.all.items ≡ taken l.taking (flat (take l.stretch-index l.stretches))
