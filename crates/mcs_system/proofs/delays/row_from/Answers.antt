use Rattle.mcs_system.proofs.Linked.{from_none}
use Rattle.mcs_system.proofs.delays.row_from.Goals as goal

pub loop-i-init : goal.loop-i-init
loop-i-init c = from_none c.args.links.now c.args.delay c.args.maker
