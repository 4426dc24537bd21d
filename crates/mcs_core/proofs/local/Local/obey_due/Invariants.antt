use Rattle.std.proofs.Common.{◌≡◌, ◌+◌, length, None}
use Rattle.mcs_ticks.specs.Queue.{by_priority}
use Rattle.mcs_core.specs.Turn.{each, obeys}
use Rattle.mcs_core.specs.Orders.{ArePlanned, AreByMoment, due_now, to_come}
use Rattle.mcs_core.specs.stored.Sound.{IsSound}
use Rattle.mcs_core.specs.stored.Sound.Phase.{PastTick}
use Rattle.mcs_core.proofs.Loops.{GoesOn}
use Rattle.mcs_core.proofs.local.Local.obey_due.Given as goal

abbrev pub invariant-agenda : goal.invariant-agenda
invariant-agenda g l = record {
  sound : IsSound l.here.system.now l.here.core l.here.moment PastTick None l.self;
  planned : ArePlanned l.here.system.now l.here.core l.agenda;
  by_moment : AreByMoment l.here.moment l.agenda;
  left : to_come (l.here.moment + 1) l.agenda ≡ to_come (l.here.moment + 1) l.initial.agenda;
  goes : GoesOn g.S.Sink.takes l.here (each (obeys by_priority l.here.system.now l.here.moment) (due_now l.here.moment l.initial.agenda) l.initial.self)
      (each (obeys by_priority l.here.system.now l.here.moment) (due_now l.here.moment l.agenda) l.self) l.initial.log l.log;
}

abbrev pub decreases-agenda : goal.decreases-agenda
decreases-agenda g l = length l.agenda
