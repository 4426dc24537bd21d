use Rattle.mcs_window.proofs.Reaching.{delays_from-more}
use Rattle.mcs_window.proofs.reach.delays_from.Goals as goal

pub loop-core-preserved : goal.loop-core-preserved
loop-core-preserved c =
    delays_from-more c.args.system.now c.loop-core.core c.loop-core.rows.items c.push.new.self.items c.delays_from.result c.loop-core.invariant c.delays_from.ensures
    c.in_ok-push.ensures.items
