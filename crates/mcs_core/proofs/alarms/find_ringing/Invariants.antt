use Rattle.mcs_core.proofs.AlarmsTree.{IsReached}
use Rattle.mcs_core.proofs.alarms.find_ringing.Given as goal

abbrev pub invariant-loop-level : goal.invariant-loop-level
invariant-loop-level l = IsReached l.moment l.levels l._level l.node l.tree
