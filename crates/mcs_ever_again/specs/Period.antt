-- A group of cores recurs between two moments.
use Rattle.std.specs.Prelude.{◌≡◌, ℕ, ◌+◌, ◌-◌, ◌<◌, Bool, List, flat_map}
use Rattle.std.specs.List.{AllByRecursion, range_with_len}
use Rattle.mcs_ticks.specs.declared.row.What.{What}
use Rattle.mcs_control.specs.declared.config.Order.{Order}
use Rattle.mcs_system.specs.System.{System}
use Rattle.mcs_core.specs.Clock.{turn_of}
use Rattle.mcs_laws.specs.Turns.{cores}
use Rattle.mcs_ever.specs.Recurs.{IsClosed, Recurs}
use Rattle.mcs_ever.specs.Closed.{has}
use Rattle.mcs_ever.specs.Marks.{marks_of}
use Rattle.mcs_ever.specs.declared.marks.Mark.{Mark}
use Rattle.mcs_ever_again.specs.Snapshot.{Snapshot, IsOfClock}
use Rattle.mcs_ever_again.specs.Told.{shifts_told}
use Rattle.mcs_ever_again.specs.declared.recurs.shifts.Shifts.{Shifts as Told}

module _ (system : System) where
  -- the rows of all turns of a moment, core by core
  abbrev pub told_at : ℕ → List What
  told_at t = flat_map (λ c. (turn_of system c t).rows) (cores system)

  -- the rows of the moments from `from` to before `past`
  abbrev pub told_between : ℕ → ℕ → List What
  told_between from past = flat_map told_at (range_with_len from (past - from))

-- the states before and after are those of the clock; no core outside the group signals one in it;
-- each order comes before the earlier moment; the marks are those of the rows between
pub record AreOfRun (system : System) (group : List Bool) (before after : Snapshot) (marks : List Mark) : Type 0 where
  pub earlier : IsOfClock system before
  pub later : IsOfClock system after
  pub closed : IsClosed system (has group)
  pub orders : AllByRecursion (λ (order : Order). order.moment < before.moment) system.orders
  pub marked : marks ≡ marks_of system (told_between system before.moment after.moment)

-- the group recurs by these shifts, with the time between as the period
pub record RecursBetween (system : System) (group : List Bool) (before after : Snapshot) (told : Told) : Type 0 where
  pub recurs : Recurs system (has group) (shifts_told told.by told.lags.items) before.moment
  pub period : before.moment + told.by ≡ after.moment
