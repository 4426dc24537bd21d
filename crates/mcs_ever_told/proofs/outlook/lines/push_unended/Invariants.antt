use Rattle.std.proofs.Common.{◌≡◌, ◌++◌, List}
use Rattle.std.specs.List.{filter_map, range_with_len}
use Rattle.mcs_ticks.specs.declared.row.Row.{Row}
use Rattle.mcs_verdict.specs.Findings.{UpTo}
use Rattle.mcs_verdict.specs.Misses.{unended}
use Rattle.mcs_verdict.specs.Watch.{watch_of}
use Rattle.mcs_ever_told.specs.Lines.{end_line}
use Rattle.mcs_ever_told.proofs.outlook.lines.push_unended.Given as goal

abbrev pub invariant-loop-thread : goal.invariant-loop-thread
invariant-loop-thread l =
    (past : List Row) → l.watch ≡ watch_of l.system past → UpTo l.moment past →
    l.lines.items ≡ l.initial.lines.items ++ filter_map (end_line l.system l.own l.moment (unended l.system past l.moment)) (range_with_len 0 l.thread)
