-- A watch that keeps its findings, as a sink of rows.
use Rattle.std.specs.Prelude.{◌≡◌, Bool, if◌then◌else◌, List, ◌∷◌, ◌++◌}
use Rattle.mcs_ticks.specs.declared.row.Row.{Row}
use Rattle.mcs_system.specs.System.{System}
use Rattle.mcs_verdict.specs.declared.finding.Found.{Found}
use Rattle.mcs_verdict.specs.Findings.{UpTo, found_at, finding}
use Rattle.mcs_verdict.specs.Watch.{Watch, watch_of}

-- the finding of a row, by the rows before it
abbrev pub told_by : System → List Row → Row → List Found
told_by system past r = found_at r.moment r.core (finding system past r.moment r.what)

-- how a row that comes in order is taken: the watch sees it, and its finding is kept unless the row
-- is refused
abbrev pub Finds : Watch → List Found → Row → Bool → Watch → List Found → Type 0
Finds watch found r taken watch' found' =
    (system : System) (past : List Row) → watch ≡ watch_of system past → UpTo r.moment past →
    (watch' ≡ watch_of system (r ∷ past)) × (found' ≡ (if taken then found ++ told_by system past r else found))
