use Rattle.mcs_release.proofs.Tree.{IsRising}
use Rattle.mcs_release.proofs.least.lower.Given as goal

abbrev pub invariant-loop-node : goal.invariant-loop-node
invariant-loop-node l = IsRising l.inner l.fn.nodes l.nodes l.place l.node l.number

abbrev pub decreases-loop-node : goal.decreases-loop-node
decreases-loop-node l = l.node
