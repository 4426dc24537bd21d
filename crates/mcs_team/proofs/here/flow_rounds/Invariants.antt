use Rattle.mcs_team.proofs.Rounds.{rounds_left, IsRound}
use Rattle.mcs_team.proofs.here.flow_rounds.Given as goal

abbrev pub invariant-rounds : goal.invariant-rounds
invariant-rounds g l =
    IsRound g.W.Part.Out.Sink.takes g.W.Part.Part.holds g.B.Run.system g.B.Run.horizon l.initial.flow.reached l.initial.out l.desk l.flow.pasts.items l.flow.merger l.flow.reached l.flow.end l.out

abbrev pub decreases-rounds : goal.decreases-rounds
decreases-rounds g l = rounds_left l.desk l.flow.reached l.flow.end
