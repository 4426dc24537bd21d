use Rattle.std.proofs.Common.{◌≡◌, ◌++◌, List}
use Rattle.std.specs.List.{filter_map, range_with_len}
use Rattle.mcs_ticks.specs.declared.row.Row.{Row}
use Rattle.mcs_verdict.specs.Due.{untaken}
use Rattle.mcs_verdict.specs.Watch.{watch_of}
use Rattle.mcs_ever_told.specs.Lines.{untaken_line}
use Rattle.mcs_ever_told.proofs.outlook.lines.push_untaken.Given as goal

abbrev pub invariant-loop-note : goal.invariant-loop-note
invariant-loop-note l =
    (past : List Row) → l.watch ≡ watch_of l.system past →
    l.lines.items ≡ l.initial.lines.items ++ filter_map (untaken_line l.system l.own l.moment (untaken l.system past l.moment)) (range_with_len 0 l.note)
