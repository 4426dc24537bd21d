-- Lost or merged signals at a notification, by the rows so far, the latest first.
use Rattle.std.specs.Prelude.{ℕ, ◌+◌, ◌==◌, Bool, false, nat_lt, if◌then◌else◌, List, [], ◌∷◌, length, Option, Some, None}
use Rattle.mcs_ticks.specs.declared.row.Row.{Row}
use Rattle.mcs_ticks.specs.declared.row.What.{What}
use Rattle.mcs_ticks.specs.declared.row.What.TheVariants as row
use Rattle.mcs_system.specs.System.{System}
use Rattle.mcs_verdict.specs.declared.finding.Finding.{Finding}
use Rattle.mcs_verdict.specs.declared.finding.Finding.TheVariants as finding
use Rattle.mcs_verdict.specs.Findings.{finding as finding_of}
use Rattle.mcs_verdict.specs.Words.{merges}
use Rattle.mcs_table.specs.declared.figures.Signals.{Signals}
use Rattle.mcs_ticks.specs.Capped.{capped}

abbrev pub is_note : ℕ → Option ℕ → Bool
is_note note None = false
is_note note (Some x) = x == note

-- the notification of a lost signal, if that is the finding
abbrev pub lost_note : Option Finding → Option ℕ
lost_note (Some (finding.Lost note word)) = Some note
lost_note _ = None

-- the notification that a signal changed, if the row shows one
abbrev pub held_note : What → Option ℕ
held_note (row.Hold note word) = Some note
held_note _ = None

abbrev pub merged_note : Bool → What → Option ℕ
merged_note is_merged what = if is_merged then held_note what else None

-- the notification at which a row after these loses a signal, and at which it merges one
abbrev pub lost_by : System → List Row → Row → Option ℕ
lost_by system past r = lost_note (finding_of system past r.moment r.what)

abbrev pub merged_by : System → List Row → Row → Option ℕ
merged_by system past r = merged_note (merges system past r.what) r.what

-- the number of rows, each by those before it, that do so at this notification
abbrev pub times_at : (List Row → Row → Option ℕ) → ℕ → List Row → ℕ
times_at by note [] = 0
times_at by note (r ∷ past) = (if is_note note (by past r) then 1 else 0) + times_at by note past

-- the numbers of lost and merged signals at the notification
abbrev pub signals_at : System → ℕ → List Row → Signals
signals_at system note past =
    record { lost = capped (times_at (lost_by system) note past); merged = capped (times_at (merged_by system) note past) }

-- the same, if the system has the notification
abbrev pub signals_known : System → ℕ → List Row → Option Signals
signals_known system note past = if nat_lt note (length system.notes) then Some (signals_at system note past) else None

-- those of the notification for which a script waits first, if it begins with a wait
abbrev pub signals_for : System → Option ℕ → List Row → Option Signals
signals_for system None past = None
signals_for system (Some note) past = signals_known system note past
