-- The ticks in which a thread stood running are those that its report says it ran.
use Rattle.std.specs.Prelude.{◌≡◌, ℕ, ◌<◌, List, [], length, get_or, sum}
use Rattle.mcs_ticks.specs.declared.row.Row.{Row}
use Rattle.mcs_system.specs.System.{System}
use Rattle.mcs_system.specs.WellFormed.{IsWellFormed}
use Rattle.mcs_core.specs.Clock.{schedule}
use Rattle.mcs_ticks.specs.Capped.{capped}
use Rattle.mcs_report.specs.Reports.{run_lengths, reports_of}
use Rattle.mcs_report.specs.Tally.{no_report}
use Rattle.mcs_verdict.specs.Findings.{past_of}
use Rattle.mcs_verdict.specs.Stood.{stood_in}

-- the ticks of a run in which the thread stood running, by its rows
abbrev pub ticks_running : ℕ → ℕ → List Row → ℕ
ticks_running horizon thread rows = (stood_in thread (past_of [] rows) 0 horizon).running

-- the lengths of its runs sum to that, and so does its report, up to the report's maximum
pub record IsRan (system : System) (horizon thread : ℕ) (rows : List Row) : Type 0 where
  pub runs : ticks_running horizon thread rows ≡ sum (run_lengths horizon thread rows)
  pub reported : thread < length system.threads →
      (get_or (reports_of system horizon rows).threads thread no_report).ran ≡ capped (ticks_running horizon thread rows)

abbrev pub RunningIsRan : Type 0
RunningIsRan =
    (system : System) → IsWellFormed system → (horizon thread : ℕ) → IsRan system horizon thread (schedule system horizon)
