use Rattle.mcs_release.proofs.Tree.{IsLeast-cleared, IsClearing-next, IsClearing-start}
use Rattle.mcs_release.proofs.least.clear.Goals as goal

pub loop-node-init : goal.loop-node-init
loop-node-init c = IsClearing-start _ _ _ c.requires.tree c.requires.within

pub loop-node-preserved : goal.loop-node-preserved
loop-node-preserved c = rw c.least_child.ensures (IsClearing-next _ _ _ _ _ c.loop-node.invariant c.loop-node-test.true)

pub returns-clause-tree : goal.returns-clause-tree
returns-clause-tree c = IsLeast-cleared _ _ _ _ _ c.loop-node.invariant c.loop-node-test.false
