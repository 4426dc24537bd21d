use Rattle.std.proofs.Common.{◌≡◌, ℕ, List, drop}
use Rattle.mcs_ticks.specs.declared.row.Row.{Row}
use Rattle.mcs_system.specs.System.{System}
use Rattle.mcs_verdict.specs.Findings.{InOrder}
use Rattle.mcs_verdict.specs.Watch.{watch_of}
use Rattle.mcs_why.specs.Search.{trail_of}
use Rattle.mcs_why.proofs.Rows.{Searches}
use Rattle.mcs_why.proofs.all.see_all.Given as goal

abbrev pub invariant-loop-row : goal.invariant-loop-row
invariant-loop-row l =
    (system : System) (thread number : ℕ) (past : List Row) → l.initial.watch ≡ watch_of system past
    → l.initial.search ≡ trail_of system thread number past → InOrder past l.rows
    → Searches system thread number past l.rows (drop l.row-index l.rows) l.watch l.search
