use Rattle.mcs_window.proofs.Openings.{delays-more}
use Rattle.mcs_window.proofs.opening.delay_rows.Goals as goal

pub loop-core-preserved : goal.loop-core-preserved
loop-core-preserved c =
    delays-more c.args.system.now c.loop-core.core c.loop-core.rows.items c.push.new.self.items c.delays_to.result c.loop-core.invariant c.delays_to.ensures
    c.in_ok-push.ensures.items
