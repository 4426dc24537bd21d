use Rattle.std.proofs.Common.{◌+◌, length}
use Rattle.mcs_merge.proofs.Joins.{AreJoining}
use Rattle.mcs_merge.proofs.lists.join.Given as goal

abbrev pub invariant-heads : goal.invariant-heads
invariant-heads l = AreJoining l.fn.first l.fn.second l.left l.right l.rows.items

abbrev pub decreases-heads : goal.decreases-heads
decreases-heads l = length l.left + length l.right
