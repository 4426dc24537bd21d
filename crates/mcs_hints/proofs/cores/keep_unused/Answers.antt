use Rattle.mcs_hints.specs.Cores.{unused}
use Rattle.mcs_hints.proofs.Numbers.{kept_more}
use Rattle.mcs_hints.proofs.cores.keep_unused.Goals as goal

pub loop-core-preserved : goal.loop-core-preserved
loop-core-preserved c =
    kept_more (unused c.args.parts.now) c.loop-core.core c.unused.result c.args.hints.now.items c.loop-core.hints.items c.keep.new.hints.items
    c.loop-core.invariant c.in_ok-keep.ensures c.unused.ensures
