-- Bounds on how long a thread runs, in schedules and in their reports.
use Rattle.std.specs.Prelude.{◌≡◌, ℕ, ◌<◌, ◌≤◌, List, length, get_or, sum}
use Rattle.mcs_ticks.specs.declared.row.Row.{Row}
use Rattle.mcs_system.specs.System.{System, thread_part}
use Rattle.mcs_system.specs.WellFormed.{IsWellFormed}
use Rattle.mcs_core.specs.Clock.{schedule}
use Rattle.mcs_laws.specs.Histories.{IsNeverReconfigured}
use Rattle.mcs_laws.specs.Demand.{ticks_run, demand_of}
use Rattle.mcs_report.specs.Reports.{run_lengths, reports_of}
use Rattle.mcs_report.specs.Tally.{no_report}
use Rattle.mcs_report.specs.declared.reports.Reports.{Reports}

-- the runs of a thread in a schedule last as many ticks as there are in which it runs
abbrev pub RunsAreTicks : Type 0
RunsAreTicks =
    (system : System) → IsWellFormed system → (horizon thread : ℕ) →
    sum (run_lengths horizon thread (schedule system horizon)) ≡ ticks_run system thread horizon

-- by these rows the runs of each thread whose context no order names last no longer than it may run
-- ..
abbrev pub RunsAreWithinDemand : System → ℕ → List Row → Type 0
RunsAreWithinDemand system horizon rows =
    (thread : ℕ) → thread < length system.threads → IsNeverReconfigured system (thread_part system thread).context →
    sum (run_lengths horizon thread rows) ≤ demand_of system thread horizon

-- .. and by these reports each such thread ran at most as long as it may
abbrev pub AreWithinDemand : System → ℕ → Reports → Type 0
AreWithinDemand system horizon reports =
    (thread : ℕ) → thread < length system.threads → IsNeverReconfigured system (thread_part system thread).context →
    (get_or reports.threads thread no_report).ran ≤ demand_of system thread horizon

-- the schedule of the clock is within demand, and so are its reports
abbrev pub DemandIsBounded : Type 0
DemandIsBounded =
    (system : System) → IsWellFormed system → (horizon : ℕ) →
    RunsAreWithinDemand system horizon (schedule system horizon)
    × AreWithinDemand system horizon (reports_of system horizon (schedule system horizon))
