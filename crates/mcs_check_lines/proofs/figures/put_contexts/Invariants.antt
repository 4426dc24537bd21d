use Rattle.std.proofs.Common.{◌≡◌, ◌++◌, ℕ, List, drop}
use Rattle.mcs_ticks.specs.declared.row.Row.{Row}
use Rattle.mcs_verdict.specs.Findings.{UpTo}
use Rattle.mcs_verdict.specs.Watch.{watch_of}
use Rattle.mcs_table.specs.Table.{table_of}
use Rattle.mcs_check_lines.specs.Figures.{context_lines}
use Rattle.mcs_check_lines.proofs.figures.put_contexts.Given as goal

abbrev pub invariant-loop-number : goal.invariant-loop-number
invariant-loop-number l =
    (horizon : ℕ) (past : List Row) → l.watch ≡ watch_of l.system past → l.table ≡ table_of l.system horizon past → UpTo horizon past
    → l.text.items ++ context_lines l.format l.system horizon past l.number (drop l.number l.system.contexts)
    ≡ l.initial.text.items ++ context_lines l.format l.system horizon past 0 l.system.contexts
