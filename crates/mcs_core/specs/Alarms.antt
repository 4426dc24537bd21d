-- The alarms of a core: the next date of each beat of a source whose notification is at home here.
use Rattle.std.specs.Prelude.{ℕ, zero, suc, ◌+◌, ◌-◌, ◌≤◌, ◌<◌, ◌^◌, Bool, false, ◌==◌, nat_le, if◌then◌else◌, List, [], ◌∷◌, map, filter, Option, Some, None}
use Rattle.std.specs.List.{AllByRecursion}
use Rattle.mcs_ticks.specs.Soonest.{sooner}
use Rattle.mcs_script.specs.Script.{never, left_after}
use Rattle.mcs_system.specs.declared.part.Beat.{Beat}
use Rattle.mcs_system.specs.System.{System, note_part, source_part}
use Rattle.mcs_core.specs.declared.alarm.Alarm.{Alarm}

-- the initial alarm of a beat: `left` dates come after the first, without end if the file gives no
-- number
abbrev pub alarm_of : System → Beat → Alarm
alarm_of system beat =
    record {
      source = beat.source;
      note = (source_part system beat.source).note;
      badge = (source_part system beat.source).badge;
      date = Some beat.first;
      period = beat.period;
      left = if beat.count == 0 then never else beat.count - 1;
    }

abbrev pub is_at_home : System → ℕ → Beat → Bool
is_at_home system c beat = (note_part system (source_part system beat.source).note).core == c

abbrev pub alarms_of : System → ℕ → List Alarm
alarms_of system c = map (alarm_of system) (filter (is_at_home system c) system.beats)

-- a placeholder past the end of a list of alarms; it is never reached
abbrev pub no_alarm : Alarm
no_alarm = record { source = 0; note = 0; badge = 0; date = None; period = 0; left = 0 }

-- a date a period later
abbrev pub later_by : ℕ → Option ℕ → Option ℕ
later_by period None = None
later_by period (Some date) = Some (date + period)

-- an alarm that has rung: its next date, if there is one
abbrev pub rung : Alarm → Alarm
rung alarm =
    record alarm {
      date = if alarm.left == 0 then None else later_by alarm.period alarm.date;
      left = left_after 1 alarm.left;
    }

abbrev pub has_come : ℕ → Option ℕ → Bool
has_come t None = false
has_come t (Some date) = nat_le date t

abbrev pub rings : ℕ → Alarm → Bool
rings t alarm = has_come t alarm.date

-- those that ring at t, and all of them when t has passed
abbrev pub ringing : ℕ → List Alarm → List Alarm
ringing t alarms = filter (rings t) alarms

abbrev pub past : ℕ → List Alarm → List Alarm
past t alarms = map (λ alarm. if rings t alarm then rung alarm else alarm) alarms

-- the alarms before moment t, from the initial ones
abbrev pub before_moment : ℕ → List Alarm → List Alarm
before_moment zero alarms = alarms
before_moment (suc t) alarms = past t (before_moment t alarms)

-- the alarms of a core before moment t
abbrev pub alarms_at : System → ℕ → ℕ → List Alarm
alarms_at system c t = before_moment t (alarms_of system c)

-- the soonest date
abbrev pub first_date : List Alarm → Option ℕ
first_date [] = None
first_date (alarm ∷ alarms) = sooner alarm.date (first_date alarms)

-- the first that rings at t, and the alarms when it has rung
abbrev pub first_ringing : ℕ → List Alarm → Option Alarm
first_ringing t [] = None
first_ringing t (alarm ∷ alarms) = if rings t alarm then Some alarm else first_ringing t alarms

abbrev pub with_first_rung : ℕ → List Alarm → List Alarm
with_first_rung t [] = []
with_first_rung t (alarm ∷ alarms) = if rings t alarm then rung alarm ∷ alarms else alarm ∷ with_first_rung t alarms

-- no period is longer than a period may be
abbrev pub AreShort : List Alarm → Type 0
AreShort alarms = AllByRecursion (λ alarm. alarm.period ≤ 2 ^ 40) alarms

-- no date before t, and each period at least one tick
abbrev pub IsFrom : ℕ → Option ℕ → Type 0
IsFrom t None = Unit {0}
IsFrom t (Some date) = t ≤ date

pub record IsAlarm (notes t : ℕ) (alarm : Alarm) : Type 0 where
  pub later : IsFrom t alarm.date
  pub period : 1 ≤ alarm.period
  pub known : alarm.note < notes

abbrev pub AreAlarms : ℕ → ℕ → List Alarm → Type 0
AreAlarms notes t alarms = AllByRecursion (IsAlarm notes t) alarms
