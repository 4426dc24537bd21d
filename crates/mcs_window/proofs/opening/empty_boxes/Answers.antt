use Rattle.mcs_window.proofs.Openings.{empty_boxes-more}
use Rattle.mcs_window.proofs.opening.empty_boxes.Goals as goal

pub loop-preserved : goal.loop-preserved
loop-preserved c = empty_boxes-more c.loop.counter c.loop.boxes.items c.push.new.self.items c.new.result c.loop.invariant c.new.ensures c.in_ok-push.ensures.items
