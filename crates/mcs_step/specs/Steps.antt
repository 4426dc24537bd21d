-- All cores on one thread: their turns are taken by time, then core, as on the clock.
use Rattle.std.specs.Prelude.{◌≡◌, ℕ, ◌+◌, ◌-◌, ◌*◌, ◌≤◌, Bool, false, List, ◌++◌, flat_map, replicate}
use Rattle.std.specs.List.{range_with_len}
use Rattle.mcs_ticks.specs.declared.row.Row.{Row}
use Rattle.mcs_ticks.specs.Given.{Given}
use Rattle.mcs_system.specs.System.{System}
use Rattle.mcs_core.specs.Clock.{clock, rows_of, schedule}

-- the turns before that of core `core` at the moment `moment` were taken; `clocks`: the moment
-- before which the state of each core stands, earlier than that of its next turn if the turns
-- between only count ticks; `failed`: memory ran out
pub record Steps : Type 0 where
  pub system : System
  pub horizon : ℕ
  pub moment : ℕ
  pub core : ℕ
  pub clocks : List ℕ
  pub failed : Bool

abbrev pub opening_steps : System → ℕ → Steps
opening_steps system horizon =
    record {
      system = system;
      horizon = horizon;
      moment = 0;
      core = 0;
      clocks = replicate system.cores 0;
      failed = false;
    }

-- the schedule's rows before the turn of a core at a moment
abbrev pub rows_before : System → ℕ → ℕ → List Row
rows_before system moment core =
    (clock system moment).rows ++ flat_map (λ c. rows_of system c moment) (range_with_len 0 core)

abbrev pub rows_so_far : Steps → List Row
rows_so_far steps = rows_before steps.system steps.moment steps.core

-- every core has taken its turn at the moment `last`, and none a later one
pub record AreAfter (last : ℕ) (steps : Steps) : Type 0 where
  pub moment_is : steps.moment ≡ last + 1
  pub core_is : steps.core ≡ 0

-- every core has taken its turn at the horizon
abbrev pub IsOver : Steps → Type 0
IsOver steps = AreAfter steps.horizon steps

-- no core has taken a turn after the moment `last`, which is not past the horizon, and memory has
-- not run out
pub record IsUpTo (last : ℕ) (steps : Steps) : Type 0 where
  pub going : steps.failed ≡ false
  pub in_time : last ≤ steps.horizon
  pub moment_is : steps.moment ≤ last + 1
  pub over : steps.moment ≡ last + 1 → steps.core ≡ 0

-- a sink was given the schedule's rows between two places, in order
abbrev pub IsToldBetween : {S : Type 0} → (S → Row → Bool → S → Type 0) → Steps → Steps → S → S → Type 0
IsToldBetween takes before after old new =
    (rows : List Row) × (rows_so_far before ++ rows ≡ rows_so_far after) × Given takes old rows new

-- the rows so far are a first part of the schedule
abbrev pub IsOnSchedule : Steps → Type 0
IsOnSchedule steps = (rest : List Row) × (rows_so_far steps ++ rest ≡ schedule steps.system steps.horizon)

-- the number of places up to the end; at each moment there is one behind the last core
abbrev pub places_left : Steps → ℕ
places_left steps = (steps.horizon + 1 - steps.moment) * (steps.system.cores + 1) - steps.core
