use Rattle.std.proofs.Common.{◌≡◌, drop}
use Rattle.mcs_ready.specs.stored.Lines.{all_threads, queue_from}
use Rattle.mcs_ready.proofs.ready.threads_by_priority.Given as goal

abbrev pub invariant-loop-priority : goal.invariant-loop-priority
invariant-loop-priority l = l.list.items ≡ queue_from l.priority (drop l.priority (all_threads l.next l.lasts))
