use Rattle.std.proofs.Common.{◌+◌, ◌<◌, sym, subst, arith, rules}
use Rattle.mcs_system.specs.WellFormed.{IsWellFormed}
use Rattle.mcs_ever.specs.stored.Makers.{IsLeastFor}
use Rattle.mcs_ever.proofs.Closing.{AreLeastUntil, least-closed, least-more}
use Rattle.mcs_ever.proofs.closed.closed_sets.Goals as goal

pub closed_set-requires : goal.closed_set-requires
closed_set-requires c =
    let well : IsWellFormed c.args.system.now = search rules in
    let known : c.loop-core.core < c.args.system.now.cores = search rules in
    omega (arith, known, well.limits.cores.1)

pub loop-core-preserved : goal.loop-core-preserved
loop-core-preserved c =
    let s = c.args.system.now in
    let least : IsLeastFor c.in_ok-makers.makers.items c.loop-core.core c.closed_set.result = search rules in
    subst (AreLeastUntil s (c.loop-core.core + 1)) (sym c.in_ok-push.ensures.items)
    (least-more s c.loop-core.core c.loop-core.sets.items c.closed_set.result c.loop-core.invariant
    (least-closed s c.in_ok-makers.makers.items c.loop-core.core c.closed_set.result c.in_ok-makers.ensures least))
