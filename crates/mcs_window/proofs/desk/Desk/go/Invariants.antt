use Rattle.std.proofs.Common.{◌≤◌}
use Rattle.mcs_window.specs.Desk.{IsLater, turns_left}
use Rattle.mcs_window.specs.stored.Slots.{HoldsAt}
use Rattle.mcs_window.proofs.desk.Desk.go.Given as goal

abbrev pub decreases-rounds : goal.decreases-rounds
decreases-rounds g l = turns_left l.self

abbrev pub invariant-rounds : goal.invariant-rounds
invariant-rounds g l = record {
  later : IsLater l.initial.self l.self;
  fewer : turns_left l.self ≤ turns_left l.initial.self;
  holds : HoldsAt l.self l.calendar;
}
