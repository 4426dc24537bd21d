use Rattle.std.proofs.Common.{◌≡◌, ◌++◌, map}
use Rattle.mcs_origins.specs.stored.Stretches.{run}
use Rattle.mcs_origins.proofs.stretches.append_origins.Given as goal

abbrev pub invariant-loop-number : goal.invariant-loop-number
invariant-loop-number l =
    l.origins.items ≡ l.initial.origins.items ++ map (λ mark. mark.origin) (run l.stretch.last l.stretch.step l.number l.stretch.places)
