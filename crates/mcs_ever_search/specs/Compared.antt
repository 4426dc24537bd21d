-- All cores of a system before one moment, to be compared with their state before an earlier one.
use Rattle.std.specs.Prelude.{◌≡◌, ℕ, ◌+◌, ◌<◌, Bool, true, false, List}
use Rattle.std.specs.List.{AllByRecursion}
use Rattle.mcs_control.specs.declared.config.Order.{Order}
use Rattle.mcs_system.specs.System.{System}
use Rattle.mcs_core.specs.Clock.{core_shown, world}
use Rattle.mcs_ever.specs.Later.{Shift, later_core}
use Rattle.mcs_ever.specs.Recurs.{Recurs}
use Rattle.mcs_ever.specs.Closed.{has}
use Rattle.mcs_ever_again.specs.Told.{shifts_told}
use Rattle.mcs_ever_again.specs.declared.recurs.shifts.Shifts.{Shifts}

-- the last moment of the run, the time of the cores' next turn, the kept moment, and whether a turn
-- ran out of memory
pub record Compared : Type 0 where
  pub system : System
  pub horizon : ℕ
  pub clock : ℕ
  pub kept : ℕ
  pub failed : Bool

abbrev pub opening : System → ℕ → Compared
opening system horizon = record { system = system; horizon = horizon; clock = 0; kept = 0; failed = false }

-- the cores move to another moment
abbrev pub at_moment : Compared → ℕ → Compared
at_moment compared moment = record compared { clock = moment }

-- later moments are compared with this one
abbrev pub with_kept : Compared → Compared
with_kept compared = record compared { kept = compared.clock }

-- a turn ran out of memory
abbrev pub with_failed : Compared → Compared
with_failed compared = record compared { failed = true }

-- all orders of the system come before the moment
abbrev pub OrdersComeBefore : System → ℕ → Type 0
OrdersComeBefore system moment = AllByRecursion (λ (order : Order). order.moment < moment) system.orders

-- the group recurs by these shifts from the kept moment on, and the time since then is the period
pub record RecursSince (compared : Compared) (group : List Bool) (shifts : Shifts) : Type 0 where
  pub recurs : Recurs compared.system (has group) (shifts_told shifts.by shifts.lags.items) compared.kept
  pub period : compared.kept + shifts.by ≡ compared.clock

-- each core of the group is that of the kept moment, later by some shift
abbrev pub CoresAreLater : System → ℕ → ℕ → List Bool → (ℕ → Shift) → Type 0
CoresAreLater system kept clock group shifts =
    (core : ℕ) → core < system.cores → has group core ≡ true →
    core_shown system (world system clock) core ≡ later_core (shifts core) (core_shown system (world system kept) core)
