use Rattle.std.proofs.Common.{◌≡◌, arith}
use Rattle.mcs_release.proofs.Tree.{IsLeast-rebuilt, IsRebuilding-next, IsRebuilding-start}
use Rattle.mcs_release.proofs.least.rebuild.Goals as goal

pub loop-i-init : goal.loop-i-init
loop-i-init c = IsRebuilding-start _ _ c.requires

pub loop-i-preserved : goal.loop-i-preserved
loop-i-preserved c = rw c.least_child.ensures (IsRebuilding-next _ _ _ _ c.loop-i.invariant c.loop-i-test.true)

pub returns-clause-tree : goal.returns-clause-tree
returns-clause-tree c =
    let all : c.loop-i.i ≡ c.args.inner = omega arith in
    IsLeast-rebuilt _ _ _ (rw all at c.loop-i.invariant)
