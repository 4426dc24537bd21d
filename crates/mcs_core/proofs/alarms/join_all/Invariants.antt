use Rattle.mcs_core.proofs.AlarmsTree.{IsJoinedFrom}
use Rattle.mcs_core.proofs.alarms.join_all.Given as goal

abbrev pub invariant-loop-node : goal.invariant-loop-node
invariant-loop-node l = IsJoinedFrom l.leaves l.node l.fn.tree l.tree
