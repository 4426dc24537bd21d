use Rattle.mcs_core.proofs.AlarmsTree.{AreLeavesSoFar}
use Rattle.mcs_core.proofs.alarms.leaves_of.Given as goal

abbrev pub invariant-loop-place : goal.invariant-loop-place
invariant-loop-place l = AreLeavesSoFar l.leaves l.place l.tree.items l.alarms
