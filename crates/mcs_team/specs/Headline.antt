-- The headline: for every accepted system, every horizon and every number of workers, the schedule
-- and the reports are those of one clock that takes all cores' turns singly. At each time every
-- context's refills, with the ticks in use counted, sum to its budget and do not overlap.
--
-- One clock takes turns by time, then core, and signals in order of making (`schedule`). The
-- premises:
-- - The system is accepted, that is, it is well formed (`System` holds no other).
-- - The horizon is at most 2^40, which is a condition of the calls.
-- - The call has returned, and with success.
--
-- A call fails if memory runs out or, when rows go to a sink, if the sink refuses one. Calls that
-- start threads don't promise to return.
use Rattle.std.specs.Prelude.{◌≡◌, ℕ, suc, ◌+◌, ◌≤◌, List, sum}
use Rattle.mcs_ticks.specs.declared.row.Row.{Row}
use Rattle.mcs_control.specs.declared.view.ContextView.{ContextView}
use Rattle.mcs_system.specs.System.{System}
use Rattle.mcs_core.specs.Clock.{schedule}
use Rattle.mcs_laws.specs.Slices.{HasSlices, IsOneSlice, charges_in, budget}
use Rattle.mcs_report.specs.declared.reports.Reports.{Reports}
use Rattle.mcs_report.specs.Reports.{reports_of}
use Rattle.mcs_window.specs.Views.{views_before, AreShownBefore}

module _ (system : System) where
  -- The second half at one time, after all its turns. There is one view per context, in file order.
  -- It shows the whole budget in force, which is that of the last order for the context up to this
  -- time, or else the file's.
  --
  -- A sporadic context has at most `2 + extra` refills that ascend and neither touch nor overlap.
  -- Their amounts sum to the budget, they span at most the period, and the ticks in use are ticks
  -- of the head. A round robin context has 1 to its budget left of its slice, and the ticks in use
  -- are among them. No ticks are in use unless the context's thread runs. `probe` promises this of
  -- its views, which are those of the clock.
  abbrev pub BudgetsStand : ℕ → List ContextView → Type 0
  BudgetsStand t views = AreShownBefore system (suc t) views

  -- Both halves. `simulate` promises this of its rows and reports for every number of workers, and
  -- `simulate_alone` on the caller's thread. `simulate_to`, `schedule_to` and `report` promise it
  -- of the schedule and its reports. `run` of `mcs_cli` writes their text and adds nothing.
  pub record Headline (horizon : ℕ) (rows : List Row) (reports : Reports) : Type 0 where
    -- the first half
    pub rows_are : rows ≡ schedule system horizon
    pub reports_are : reports ≡ reports_of system horizon rows
    -- the second half, at each time of the run
    pub budgets : (t : ℕ) → t ≤ horizon → BudgetsStand t (views_before system (suc t))
    -- the second half for round robin contexts: from one full slice to the next, the charges in the
    -- rows sum to the budget in force, if no order for the context came in between
    pub slices : (context from moments : ℕ) → HasSlices system context → from + moments ≤ suc horizon
        → IsOneSlice system context from moments →
        sum (charges_in system context from moments rows) ≡ budget system context from
