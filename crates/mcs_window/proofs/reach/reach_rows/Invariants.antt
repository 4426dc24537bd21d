use Rattle.mcs_window.specs.stored.Reaches.{AreReachesUntil}
use Rattle.mcs_window.proofs.reach.reach_rows.Given as goal

abbrev pub invariant-loop-thread : goal.invariant-loop-thread
invariant-loop-thread l = AreReachesUntil l.system l.thread l.rows.items
