use Rattle.std.proofs.Common.{length, None}
use Rattle.mcs_ticks.specs.Queue.{by_priority}
use Rattle.mcs_core.specs.Turn.{releases}
use Rattle.mcs_core.specs.stored.Sound.{IsSound}
use Rattle.mcs_core.specs.stored.Sound.Phase.{PastTick}
use Rattle.mcs_core.proofs.Loops.{GoesOn}
use Rattle.mcs_core.proofs.local.Local.releases.Given as goal

abbrev pub invariant-due : goal.invariant-due
invariant-due g l = record {
  sound : IsSound l.here.system.now l.here.core l.here.moment PastTick None l.self;
  goes : GoesOn g.S.Sink.takes l.here (releases by_priority l.here.system.now l.here.moment l.initial.self) (releases by_priority l.here.system.now l.here.moment l.self) l.initial.log l.log;
}

abbrev pub decreases-due : goal.decreases-due
decreases-due g l = length l.self.releases
