use Rattle.mcs_verdict_laws.proofs.Horizons.{rounds-stay}
use Rattle.mcs_verdict_laws.proofs.rounds_stay_until_they_end.Goals as goal

pub returns : goal.returns
returns c = rounds-stay
