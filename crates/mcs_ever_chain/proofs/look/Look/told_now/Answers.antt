use Rattle.mcs_ever_chain.proofs.Looking.{look-pair}
use Rattle.mcs_ever_chain.proofs.look.Look.told_now.Goals as goal

pub told_since-requires : goal.told_since-requires
told_since-requires c = look-pair c.args.system.now c.args.self.now c.args.now.now _ c.requires c.in-Some.is c.if-self.true
