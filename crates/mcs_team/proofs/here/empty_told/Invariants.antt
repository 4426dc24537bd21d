use Rattle.mcs_window.specs.Desk.{AreEmpty}
use Rattle.mcs_team.proofs.here.empty_told.Given as goal

abbrev pub invariant-loop : goal.invariant-loop
invariant-loop g l = AreEmpty g.W.Told.Collector.holds l.counter l.told.items
