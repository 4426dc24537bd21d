use Rattle.mcs_system.specs.System.{core_of, thread_part}
use Rattle.mcs_window.specs.stored.Reaches.{AreReachesOf}
use Rattle.mcs_window.proofs.reach.mark_items.Given as goal

abbrev pub invariant-loop-item : goal.invariant-loop-item
invariant-loop-item l = AreReachesOf l.system (core_of l.system (thread_part l.system l.fn.thread)) l.fn.thread l.item l.row
