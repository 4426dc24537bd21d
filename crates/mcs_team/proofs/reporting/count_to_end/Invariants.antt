use Rattle.mcs_window.specs.Desk.{turns_left}
use Rattle.mcs_team.proofs.Endings.{IsCounting}
use Rattle.mcs_team.proofs.reporting.count_to_end.Given as goal

abbrev pub invariant-rounds : goal.invariant-rounds
invariant-rounds g l = IsCounting g.B.Run.system g.B.Run.horizon l.desk

abbrev pub decreases-rounds : goal.decreases-rounds
decreases-rounds g l = turns_left l.desk
