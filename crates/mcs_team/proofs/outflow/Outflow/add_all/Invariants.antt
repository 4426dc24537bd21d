use Rattle.std.proofs.Common.{◌≡◌, length}
use Rattle.mcs_team.specs.Flow.{Waits}
use Rattle.mcs_team.proofs.outflow.Outflow.add_all.Given as goal

abbrev pub invariant-told : goal.invariant-told
invariant-told g l =
    (l.self.reached ≡ l.initial.self.reached)
    × (l.self.end ≡ l.initial.self.end)
    × ((out : _) → g.W.Relay.fits l.relay out
    → Waits g.W.Part.Part.holds g.B.Run.system g.B.Run.horizon l.initial.self.reached l.initial.self.pasts.items l.initial.self.merger out
    → Waits g.W.Part.Part.holds g.B.Run.system g.B.Run.horizon l.self.reached l.self.pasts.items l.self.merger out)

abbrev pub decreases-told : goal.decreases-told
decreases-told g l = length l.told.items
