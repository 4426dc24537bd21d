-- Bounds on how long a thread in bandwidth mode runs within a period.
use Rattle.std.specs.Prelude.{ℕ, ◌+◌, ◌≤◌, nat_le, List, filter, sum}
use Rattle.mcs_ticks.specs.declared.row.Row.{Row}
use Rattle.mcs_system.specs.System.{System}
use Rattle.mcs_system.specs.WellFormed.{IsWellFormed}
use Rattle.mcs_core.specs.Clock.{schedule}
use Rattle.mcs_laws.specs.Bandwidth.{its_part, IsInBandwidthMode, IsWithinAPeriod, HasBandwidth}
use Rattle.mcs_laws.specs.Demand.{config_from}
use Rattle.mcs_report.specs.Reports.{run_lengths}

-- the rows up to this time
abbrev pub rows_up_to : ℕ → List Row → List Row
rows_up_to moment rows = filter (λ (row : Row). nat_le row.moment moment) rows

-- the ticks before a time in which a thread runs, by these rows: the lengths of its runs, the open
-- one up to the time
abbrev pub ticks_before : ℕ → ℕ → List Row → ℕ
ticks_before moment thread rows = sum (run_lengths moment thread (rows_up_to moment rows))

-- by these rows each thread in bandwidth mode runs at most the budget in force in any interval of
-- one period or less within which no order for its context comes. The interval ends at the horizon
-- or earlier.
abbrev pub RunsWithinBandwidth : System → ℕ → List Row → Type 0
RunsWithinBandwidth system horizon rows =
    (thread from ticks : ℕ) → IsInBandwidthMode system thread → IsWithinAPeriod system thread from ticks
    → from + ticks ≤ horizon →
    ticks_before (from + ticks) thread rows ≤ ticks_before from thread rows + (config_from system thread from).budget

-- this holds in the schedule of the clock
abbrev pub BandwidthIsBounded : Type 0
BandwidthIsBounded =
    (system : System) → IsWellFormed system → (horizon : ℕ) →
    RunsWithinBandwidth system horizon (schedule system horizon)

-- rows for which this holds: if no order names the context of a thread in bandwidth mode, the
-- thread runs at most its budget in the file in any interval of one period or less
abbrev pub FilesBoundBandwidth : Type 0
FilesBoundBandwidth =
    (system : System) → IsWellFormed system → (horizon : ℕ) (rows : List Row) → RunsWithinBandwidth system horizon rows
    →
    (thread from ticks : ℕ) → HasBandwidth system thread → ticks ≤ (its_part system thread).config.period
    → from + ticks ≤ horizon →
    ticks_before (from + ticks) thread rows ≤ ticks_before from thread rows + (its_part system thread).config.budget
