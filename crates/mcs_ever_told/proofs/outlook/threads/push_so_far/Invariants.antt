use Rattle.std.proofs.Common.{◌≡◌, ◌++◌}
use Rattle.std.specs.List.{filter_map, range_with_len}
use Rattle.mcs_ever_told.specs.Lines.{thread_so_far}
use Rattle.mcs_ever_told.proofs.outlook.threads.push_so_far.Given as goal

abbrev pub invariant-loop-thread : goal.invariant-loop-thread
invariant-loop-thread l = l.lines.items ≡ l.initial.lines.items ++ filter_map (thread_so_far l.system l.own l.course) (range_with_len 0 l.thread)
