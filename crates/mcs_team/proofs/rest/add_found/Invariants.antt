use Rattle.std.proofs.Common.{◌≡◌}
use Rattle.mcs_team.specs.Flow.{Waits}
use Rattle.mcs_team.proofs.rest.add_found.Given as goal

abbrev pub invariant-loop-slot : goal.invariant-loop-slot
invariant-loop-slot g l =
    (l.flow.reached ≡ l.initial.flow.reached)
    × (l.flow.end ≡ l.initial.flow.end)
    × ((out : _) → g.W.Relay.fits l.relay out
    → Waits g.W.Part.Part.holds g.B.Run.system g.B.Run.horizon l.initial.flow.reached l.initial.flow.pasts.items l.initial.flow.merger out
    → Waits g.W.Part.Part.holds g.B.Run.system g.B.Run.horizon l.flow.reached l.flow.pasts.items l.flow.merger out)
