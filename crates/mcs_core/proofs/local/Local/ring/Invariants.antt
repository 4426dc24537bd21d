use Rattle.std.proofs.Common.{◌≡◌, length, None}
use Rattle.mcs_ticks.specs.Queue.{by_priority}
use Rattle.mcs_core.specs.Alarms.{AreAlarms, ringing, past}
use Rattle.mcs_core.specs.Turn.{each, interrupts}
use Rattle.mcs_core.specs.stored.Sound.{IsSound}
use Rattle.mcs_core.specs.stored.Sound.Phase.{PastTick}
use Rattle.mcs_core.proofs.Loops.{GoesOn}
use Rattle.mcs_core.proofs.local.Local.ring.Given as goal

abbrev pub invariant-alarms : goal.invariant-alarms
invariant-alarms g l = record {
  sound : IsSound l.here.system.now l.here.core l.here.moment PastTick None l.self;
  are : AreAlarms (length l.here.system.now.notes) l.here.moment l.alarms;
  left : past l.here.moment l.alarms ≡ past l.here.moment l.initial.alarms;
  goes : GoesOn g.S.Sink.takes l.here (each (interrupts by_priority l.here.system.now l.here.moment) (ringing l.here.moment l.initial.alarms) l.initial.self)
      (each (interrupts by_priority l.here.system.now l.here.moment) (ringing l.here.moment l.alarms) l.self) l.initial.log l.log;
}

abbrev pub decreases-alarms : goal.decreases-alarms
decreases-alarms g l = length (ringing l.here.moment l.alarms)
