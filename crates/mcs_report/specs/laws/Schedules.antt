-- Schedules, and their reports.
use Rattle.std.specs.Prelude.{◌≡◌, ℕ}
use Rattle.mcs_system.specs.System.{System}
use Rattle.mcs_system.specs.WellFormed.{IsWellFormed}
use Rattle.mcs_core.specs.Clock.{schedule}
use Rattle.mcs_report.specs.Reports.{reports_of}
use Rattle.mcs_report.specs.Tally.{finished}
use Rattle.mcs_report.specs.laws.Agreement.{RunsApart, tally_of}

-- in a schedule each run of a thread is stopped before the next one
abbrev pub SchedulesRunApart : Type 0
SchedulesRunApart =
    (system : System) → IsWellFormed system → (horizon thread : ℕ) → RunsApart thread (schedule system horizon)

-- therefore the tally of a schedule gives its reports
abbrev pub SchedulesAreReported : Type 0
SchedulesAreReported =
    (system : System) → IsWellFormed system → (horizon : ℕ) →
    finished (tally_of system horizon (schedule system horizon)) ≡ reports_of system horizon (schedule system horizon)
