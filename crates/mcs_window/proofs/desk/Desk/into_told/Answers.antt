use Rattle.std.proofs.Common.{subst}
use Rattle.mcs_window.specs.Desk.{AreTold}
use Rattle.mcs_window.proofs.desk.Desk.into_told.Goals as goal

pub returns : goal.returns
returns g c = subst (λ t. AreTold g.S.Collector.holds t c.self.inside.told.items) c.self.view_is c.self.invariant.since.told_are
