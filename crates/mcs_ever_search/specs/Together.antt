-- All cores of a system at one time.
use Rattle.std.specs.Prelude.{ℕ, Bool, true, false, List, replicate, flat_map}
use Rattle.mcs_ticks.specs.declared.row.Row.{Row}
use Rattle.mcs_system.specs.System.{System}
use Rattle.mcs_core.specs.Clock.{clock, rows_of}
use Rattle.mcs_laws.specs.Turns.{cores}

-- `clock`: the time of the next turn; `settled`: no state of an idle core lags; `failed`: memory ran
-- out for a turn
pub record Together : Type 0 where
  pub system : System
  pub horizon : ℕ
  pub clock : ℕ
  pub settled : Bool
  pub failed : Bool

abbrev pub opening : System → ℕ → Together
opening system horizon =
    record { system = system; horizon = horizon; clock = 0; settled = true; failed = false }

-- the cores move to another moment
abbrev pub at_moment : Together → ℕ → Together
at_moment together moment = record together { clock = moment; settled = false }

-- memory ran out for a turn
abbrev pub with_failed : Together → Together
with_failed together = record together { settled = false; failed = true }

module _ (system : System) where
  -- the clocks of all cores before moment t
  abbrev pub clocks_at : ℕ → List ℕ
  clocks_at t = replicate system.cores t

  -- the rows of the turns at moment t, in rising order of the cores
  abbrev pub rows_at : ℕ → List Row
  rows_at t = flat_map (λ c. rows_of system c t) (cores system)

  -- all rows of the schedule before moment t
  abbrev pub rows_before : ℕ → List Row
  rows_before t = (clock system t).rows
