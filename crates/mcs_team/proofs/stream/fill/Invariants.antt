use Rattle.std.proofs.Common.{◌≡◌}
use Rattle.mcs_team.proofs.stream.fill.Given as goal

abbrev pub invariant-loop : goal.invariant-loop
invariant-loop g l =
    (l.flow.reached ≡ l.initial.flow.reached)
    × (l.flow.end ≡ l.initial.flow.end)
    × (l.flow.merger ≡ l.initial.flow.merger)
    × (l.flow.pasts.items ≡ l.initial.flow.pasts.items)
