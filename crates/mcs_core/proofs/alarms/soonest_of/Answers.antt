use Rattle.std.proofs.Common.{◌∙◌, arith}
use Rattle.std.specs.Prelude.{None}
use Rattle.std.proofs.lemmas.List.{get_or_default}
use Rattle.mcs_core.proofs.AlarmsTree.{leaf-above, root-first}
use Rattle.mcs_core.proofs.alarms.soonest_of.Goals as goal

pub bounds-tree-1 : goal.bounds-tree-1
bounds-tree-1 c = omega (arith, c.requires.leaves.many, leaf-above c.args.levels 1)

pub returns : goal.returns
returns c =
    c.index-tree-1.is ∙ get_or_default c.args.tree.now 1 c.index-tree-1.result None (omega (arith, c.requires.leaves.many, leaf-above c.args.levels 1))
    ∙ root-first c.args.levels c.args.tree.now c.args.alarms.now c.requires
