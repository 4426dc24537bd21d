use Rattle.std.proofs.Common.{◌≡◌, ℕ, List, drop}
use Rattle.mcs_ticks.specs.declared.row.Row.{Row}
use Rattle.mcs_system.specs.System.{System}
use Rattle.mcs_verdict.specs.Findings.{InOrder}
use Rattle.mcs_verdict.specs.Watch.{watch_of}
use Rattle.mcs_table.specs.Table.{table_of}
use Rattle.mcs_table.proofs.Rows.{Follows}
use Rattle.mcs_table.proofs.all.see_all.Given as goal

abbrev pub invariant-loop-row : goal.invariant-loop-row
invariant-loop-row l =
    (system : System) (horizon : ℕ) (past : List Row) → l.initial.watch ≡ watch_of system past → l.initial.table ≡ table_of system horizon past
    → InOrder past l.rows
    → Follows system horizon past l.rows (drop l.row-index l.rows) l.watch l.table
