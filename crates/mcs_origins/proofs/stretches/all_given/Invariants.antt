use Rattle.std.proofs.Common.{◌≡◌, take}
use Rattle.mcs_origins.specs.Sets.{given}
use Rattle.mcs_origins.specs.stored.Stretches.{flat}
use Rattle.mcs_origins.proofs.stretches.all_given.Given as goal

abbrev pub invariant-loop-stretch : goal.invariant-loop-stretch
invariant-loop-stretch l = flat l.all.items ≡ given l.places l.badge (flat (take l.stretch-index l.stretches))
