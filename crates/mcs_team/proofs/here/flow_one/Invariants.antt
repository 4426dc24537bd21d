use Rattle.std.proofs.Common.{◌+◌, ◌-◌}
use Rattle.mcs_team.proofs.OneCore.{IsBetween}
use Rattle.mcs_team.proofs.here.flow_one.Given as goal

abbrev pub invariant-rounds : goal.invariant-rounds
invariant-rounds g l =
    IsBetween g.W.Part.Out.Sink.takes g.W.Told.Collector.holds l.initial.desk.system l.initial.desk.horizon l.initial.out l.desk l.reached l.room l.out

abbrev pub decreases-rounds : goal.decreases-rounds
decreases-rounds g l = l.initial.desk.horizon + 1 - l.reached
