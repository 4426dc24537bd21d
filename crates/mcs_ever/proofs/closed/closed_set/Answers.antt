use Rattle.std.proofs.Common.{sym, subst, rules}
use Rattle.mcs_ever.specs.stored.Makers.{IsWithin, IsOutside}
use Rattle.mcs_ever.proofs.Closing.{within-first, within-more, outside-fewer}
use Rattle.mcs_ever.proofs.closed.closed_set.Goals as goal

pub loop-maker-init : goal.loop-maker-init
loop-maker-init c = subst (IsWithin c.args.makers.now c.args.core) (sym c.only-set.ensures) (within-first c.args.makers.now c.args.core c.requires)

pub loop-maker-smaller : goal.loop-maker-smaller
loop-maker-smaller c =
    let out : IsOutside c.args.makers.now c.loop-maker.set c.maker.inside.0 = search rules in
    outside-fewer c.args.makers.now c.args.core c.loop-maker.set c.maker.inside.0 c.loop-maker.invariant out

pub loop-maker-preserved : goal.loop-maker-preserved
loop-maker-preserved c =
    let out : IsOutside c.args.makers.now c.loop-maker.set c.maker.inside.0 = search rules in
    within-more c.args.makers.now c.args.core c.loop-maker.set c.maker.inside.0 c.loop-maker.invariant out
