use Rattle.std.proofs.Common.{◌≡◌, ◌<◌, ◌≤◌, ℕ, max}
use Rattle.std.specs.Prelude.{IsFalse, IsTrue, slice_index}
use Rattle.mcs_window.specs.Desk.{IsLater, clock_of, past_of, turns_left}
use Rattle.mcs_window.specs.stored.Slots.{HoldsAt}
use Rattle.mcs_window.proofs.desk.Desk.sweep.Given as goal

abbrev pub invariant-loop-core : goal.invariant-loop-core
invariant-loop-core g l = record {
  later : IsLater l.initial.self l.self;
  holds : HoldsAt l.self l.calendar;
  same : IsFalse l.moved → (l.self ≡ l.initial.self) × (l.calendar ≡ l.initial.calendar);
  waits : IsFalse l.moved → (c : ℕ) → c < l.core → past_of l.initial.self c ≤ max (clock_of l.initial.self c) (slice_index l.initial.calendar.until c);
  no_more : turns_left l.self ≤ turns_left l.initial.self;
  fewer : IsTrue l.moved → turns_left l.self < turns_left l.initial.self;
}
