use Rattle.mcs_system.proofs.Linked.{all_none}
use Rattle.mcs_system.proofs.delays.table_of.Goals as goal

pub loop-i-init : goal.loop-i-init
loop-i-init c = all_none c.args.links.now c.args.delay
