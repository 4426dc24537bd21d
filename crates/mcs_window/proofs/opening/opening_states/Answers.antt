use Rattle.mcs_window.proofs.Openings.{opening-more}
use Rattle.mcs_window.proofs.opening.opening_states.Goals as goal

pub loop-core-preserved : goal.loop-core-preserved
loop-core-preserved c =
    opening-more c.args.system.now c.loop-core.core c.loop-core.states.items c.push.new.self.items c.in_ok-state.state c.loop-core.invariant c.in_ok-state.ensures.state c.in_ok-state.ensures.fits
    c.in_ok-push.ensures.items
