use Rattle.mcs_refills.proofs.Enough.{heads-enough}
use Rattle.mcs_refills.proofs.laws.heads_have_enough.Goals as goal

pub returns : goal.returns
returns c = heads-enough
