use Rattle.std.proofs.Common.{◌≡◌}
use Rattle.mcs_team.specs.Flow.{Waits}
use Rattle.mcs_team.proofs.Gathering.{AreGathered}
use Rattle.mcs_team.proofs.outflow.Outflow.gather.Given as goal

abbrev pub invariant-loop-number : goal.invariant-loop-number
invariant-loop-number g l =
    AreGathered l.initial.desk l.number l.desk l.self.pasts.items
    × (l.self.reached ≡ l.initial.self.reached)
    × (l.self.end ≡ l.initial.self.end)
    × ((out : _) → g.W.Relay.fits l.relay out
    → Waits g.W.Part.Part.holds g.B.Run.system g.B.Run.horizon l.initial.self.reached l.initial.self.pasts.items l.initial.self.merger out
    → Waits g.W.Part.Part.holds g.B.Run.system g.B.Run.horizon l.self.reached l.self.pasts.items l.self.merger out)
