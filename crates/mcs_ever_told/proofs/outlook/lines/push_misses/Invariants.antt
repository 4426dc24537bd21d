use Rattle.std.proofs.Common.{◌≡◌, ◌++◌}
use Rattle.std.specs.List.{filter_map, range_with_len}
use Rattle.mcs_ever_told.specs.Lines.{miss_line}
use Rattle.mcs_ever_told.proofs.outlook.lines.push_misses.Given as goal

abbrev pub invariant-loop-thread : goal.invariant-loop-thread
invariant-loop-thread l = l.lines.items ≡ l.initial.lines.items ++ filter_map (miss_line l.span.system.now l.span.own.now l.span.forever l.span.before.now l.span.after.now) (range_with_len 0 l.thread)
