use Rattle.std.proofs.Common.{◌≡◌, ◌+◌}
use Rattle.mcs_team.specs.Flow.{Waits}
use Rattle.mcs_team.proofs.Resting.{AreAdded}
use Rattle.mcs_team.proofs.rest.add_rests.Given as goal

abbrev pub invariant-loop-number : goal.invariant-loop-number
invariant-loop-number g l =
    AreAdded l.initial.desk l.initial.flow.pasts.items (g.B.Run.horizon + 1) l.number l.desk l.flow.pasts.items
    × (l.flow.reached ≡ l.initial.flow.reached)
    × (l.flow.end ≡ l.initial.flow.end)
    × ((out : _) → g.W.Relay.fits l.relay out
    → Waits g.W.Part.Part.holds g.B.Run.system g.B.Run.horizon l.initial.flow.reached l.initial.flow.pasts.items l.initial.flow.merger out
    → Waits g.W.Part.Part.holds g.B.Run.system g.B.Run.horizon l.flow.reached l.flow.pasts.items l.flow.merger out)
