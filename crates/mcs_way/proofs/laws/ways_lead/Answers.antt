use Rattle.mcs_way.proofs.Leading.{ways-led}
use Rattle.mcs_way.proofs.laws.ways_lead.Goals as goal

pub returns : goal.returns
returns c = ways-led
