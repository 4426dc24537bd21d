use Rattle.mcs_way.proofs.Leading.{ticks-lead}
use Rattle.mcs_way.proofs.laws.ticks_sum.Goals as goal

pub returns : goal.returns
returns c = ticks-lead
