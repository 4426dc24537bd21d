use Rattle.std.proofs.Common.{◌≡◌, ◌++◌, ℕ, ◌+◌, ◌≤◌, List}
use Rattle.std.specs.Prelude.{◌^◌}
use Rattle.std.specs.List.{filter_map, range_with_len}
use Rattle.mcs_ticks.specs.declared.row.Row.{Row}
use Rattle.mcs_verdict.specs.Findings.{UpTo}
use Rattle.mcs_verdict.specs.Misses.{unended}
use Rattle.mcs_verdict.specs.Watch.{Watch, watch_of}
use Rattle.mcs_ever_found.specs.Period.{AreKept, endless_round}
use Rattle.mcs_ever_told.specs.Lines.{ever_line}
use Rattle.mcs_ever_told.proofs.outlook.lines.push_endless.Given as goal

abbrev pub invariant-loop-thread : goal.invariant-loop-thread
invariant-loop-thread l =
    (by from : ℕ) (before : Watch) (past : List Row) → from + by ≤ 2 ^ 41 → AreKept l.system by from before l.watch l.doings →
    l.watch ≡ watch_of l.system past → UpTo l.last past →
    l.lines.items ≡ l.initial.lines.items
    ++ filter_map (ever_line l.system l.own (endless_round l.system by from) (unended l.system past l.last)) (range_with_len 0 l.thread)
