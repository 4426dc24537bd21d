use Rattle.std.proofs.Common.{◌≡◌, ◌++◌}
use Rattle.std.specs.List.{filter_map, range_with_len}
use Rattle.mcs_ever_told.specs.Lines.{thread_line}
use Rattle.mcs_ever_told.proofs.outlook.threads.push_threads.Given as goal

abbrev pub invariant-loop-thread : goal.invariant-loop-thread
invariant-loop-thread l = l.lines.items ≡ l.initial.lines.items ++ filter_map (thread_line l.system l.own l.course l.from l.ended) (range_with_len 0 l.thread)
