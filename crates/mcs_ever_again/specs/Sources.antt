-- The dates of sources, some ticks later.
use Rattle.std.specs.Prelude.{◌≡◌, ℕ, ◌+◌, ◌-◌, ◌*◌, ◌%◌, ◌^◌, ◌≤◌, ◌<◌, ◌⊎◌, Bool, true, List, map}
use Rattle.mcs_system.specs.declared.part.Beat.{Beat}
use Rattle.mcs_system.specs.System.{System}
use Rattle.mcs_core.specs.Alarms.{is_at_home, alarms_at}
use Rattle.mcs_ever.specs.Closed.{has}
use Rattle.mcs_ever.specs.Later.{later_alarm}

-- dates without end: the first is at most `from`, and their period divides `by`
pub record AreEndless (from by : ℕ) (beat : Beat) : Type 0 where
  pub endless : beat.count ≡ 0
  pub begun : beat.first ≤ from
  pub multiple : by % beat.period ≡ 0

-- dates whose last one comes before `from`
pub record AreOver (from : ℕ) (beat : Beat) : Type 0 where
  pub some : 1 ≤ beat.count
  pub few : beat.count < 2 ^ 64
  pub over : beat.first + (beat.count - 1) * beat.period < from

-- the dates from `from` + `by` on are those from `from` on, `by` ticks later
pub record GoOn (from by : ℕ) (beat : Beat) : Type 0 where
  pub period : 1 ≤ beat.period
  pub dates : AreEndless from by beat ⊎ AreOver from beat

-- this holds for a source that interrupts on a core of the group
abbrev pub OwnGoOn : System → List Bool → ℕ → ℕ → Beat → Type 0
OwnGoOn system group from by beat = (core : ℕ) → has group core ≡ true → is_at_home system core beat ≡ true → GoOn from by beat

-- each source of the group's cores has its next date later, and as many dates left
abbrev pub AlarmsAreLater : System → List Bool → ℕ → ℕ → Type 0
AlarmsAreLater system group from by =
    (core : ℕ) → has group core ≡ true → alarms_at system core (from + by) ≡ map (later_alarm by) (alarms_at system core from)
