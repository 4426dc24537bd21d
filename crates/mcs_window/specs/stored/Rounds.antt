-- Rounds of turns that cores take on the desk itself.
use Rattle.std.specs.Prelude.{◌≡◌, false}
use Rattle.mcs_window.specs.Desk.{Table, AllAreHere}
use Rattle.mcs_window.specs.stored.Slots.{HoldsAt}
use Rattle.mcs_window.specs.declared.calendar.Calendar.{Calendar}

-- no core is lent, none was lost, and the calendar holds
pub record AreReady (table : Table) (calendar : Calendar) : Type 0 where
  pub sound : table.lost ≡ false
  pub here : AllAreHere table
  pub holds : HoldsAt table calendar
