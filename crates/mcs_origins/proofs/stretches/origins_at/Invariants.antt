use Rattle.std.proofs.Common.{◌≡◌, drop, map}
use Rattle.mcs_origins.specs.Sets.{at_places}
use Rattle.mcs_origins.specs.stored.Stretches.{flat}
use Rattle.mcs_origins.proofs.stretches.origins_at.Given as goal

abbrev pub invariant-loop-i : goal.invariant-loop-i
invariant-loop-i l = l.origins.items ≡ map (λ mark. mark.origin) (at_places l.places (flat (drop l.i l.stretches)))
