-- Counting row by row gives the reports of all rows.
use Rattle.std.specs.Prelude.{◌≡◌, ℕ, true, false, List, [], ◌∷◌, map, fold}
use Rattle.mcs_ticks.specs.declared.row.Row.{Row}
use Rattle.mcs_system.specs.System.{System}
use Rattle.mcs_report.specs.declared.reports.ThreadReport.{ThreadReport}
use Rattle.mcs_report.specs.Reports.{runs, stops, reports_of}
use Rattle.mcs_report.specs.Tally.{Tally, opened_tally, added, finished}

-- the thread stops before it runs again
abbrev pub StopsFirst : ℕ → List Row → Type 0
StopsFirst thread [] = Unit {0}
StopsFirst thread (r ∷ rows) = (runs thread r.what ≡ false) × (stops thread r.what ≡ false → StopsFirst thread rows)

-- each run of the thread is stopped before the next one, as in every schedule
abbrev pub RunsApart : ℕ → List Row → Type 0
RunsApart thread [] = Unit {0}
RunsApart thread (r ∷ rows) = (runs thread r.what ≡ true → StopsFirst thread rows) × RunsApart thread rows

-- the tally of these rows
abbrev pub tally_of : System → ℕ → List Row → Tally
tally_of system horizon rows = fold added (opened_tally system horizon) rows

-- a report without the ticks that it ran
abbrev pub but_ran : ThreadReport → ThreadReport
but_ran report = record report { ran = 0 }

abbrev pub Agree : Type 0
Agree =
    (system : System) (horizon : ℕ) (rows : List Row) → ((thread : ℕ) → RunsApart thread rows)
    → finished (tally_of system horizon rows) ≡ reports_of system horizon rows

-- for any rows
abbrev pub AgreeButRan : Type 0
AgreeButRan =
    (system : System) (horizon : ℕ) (rows : List Row)
    → map but_ran (finished (tally_of system horizon rows)).threads
    ≡ map but_ran (reports_of system horizon rows).threads
