use Rattle.mcs_verdict_laws.proofs.Horizons.{activation-stays}
use Rattle.mcs_verdict_laws.proofs.activation_stays.Goals as goal

pub returns : goal.returns
returns c = activation-stays
