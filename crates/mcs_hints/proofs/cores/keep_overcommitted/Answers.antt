use Rattle.mcs_hints.specs.Cores.{overcommitted}
use Rattle.mcs_hints.proofs.Numbers.{kept_more}
use Rattle.mcs_hints.proofs.cores.keep_overcommitted.Goals as goal

pub loop-core-preserved : goal.loop-core-preserved
loop-core-preserved c =
    kept_more (overcommitted c.args.system.now) c.loop-core.core c.in_ok-hint.hint c.args.hints.now.items c.loop-core.hints.items c.keep.new.hints.items
    c.loop-core.invariant c.in_ok-keep.ensures c.in_ok-hint.ensures
