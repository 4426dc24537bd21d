use Rattle.mcs_system.proofs.Linked.{to_none}
use Rattle.mcs_system.proofs.delays.row_to.Goals as goal

pub loop-i-init : goal.loop-i-init
loop-i-init c = to_none c.args.links.now c.args.delay c.args.home
