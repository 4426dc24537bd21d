use Rattle.std.proofs.Common.{◌≡◌, ◌+◌, ◌/◌, ◌<◌, arith, get_or, length}
use Rattle.std.proofs.lemmas.List.{get_or_default}
use Rattle.mcs_release.specs.stored.Least.{empty}
use Rattle.mcs_release.proofs.Tree.{IsLeast-risen, IsLeast-stop, IsRising-next, IsRising-start}
use Rattle.mcs_release.proofs.least.lower.Goals as goal

pub loop-node-init : goal.loop-node-init
loop-node-init c = IsRising-start _ _ _ _ c.requires.tree c.requires.within c.requires.lower

pub loop-node-preserved : goal.loop-node-preserved
loop-node-preserved c =
    let below : c.loop-node.node / 4 + 2 < length c.loop-node.nodes = omega (arith, c.loop-node.invariant.high, c.loop-node.invariant.size) in
    let read : get_or c.loop-node.nodes (c.loop-node.node / 4 + 2) 0 ≡ get_or c.loop-node.nodes (c.loop-node.node / 4 + 2) empty = get_or_default _ _ 0 _ below in
    IsRising-next _ _ _ _ _ _ c.loop-node.invariant c.loop-node-test.true (omega (arith, c.if-nodes-node.false))

pub returns-then-nodes-node-clause-tree : goal.returns-then-nodes-node-clause-tree
returns-then-nodes-node-clause-tree c =
    let below : c.loop-node.node / 4 + 2 < length c.loop-node.nodes = omega (arith, c.loop-node.invariant.high, c.loop-node.invariant.size) in
    let read : get_or c.loop-node.nodes (c.loop-node.node / 4 + 2) 0 ≡ get_or c.loop-node.nodes (c.loop-node.node / 4 + 2) empty = get_or_default _ _ 0 _ below in
    IsLeast-stop _ _ _ _ _ _ c.loop-node.invariant (omega (arith, c.if-nodes-node.true))

pub returns-clause-tree : goal.returns-clause-tree
returns-clause-tree c = IsLeast-risen _ _ _ _ _ _ c.loop-node.invariant c.loop-node-test.false
