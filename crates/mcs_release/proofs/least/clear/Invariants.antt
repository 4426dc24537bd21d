use Rattle.mcs_release.proofs.Tree.{IsClearing}
use Rattle.mcs_release.proofs.least.clear.Given as goal

abbrev pub invariant-loop-node : goal.invariant-loop-node
invariant-loop-node l = IsClearing l.inner l.fn.nodes l.nodes l.place l.node

abbrev pub decreases-loop-node : goal.decreases-loop-node
decreases-loop-node l = l.node
