use Rattle.mcs_verdict_laws.proofs.Horizons.{untaken-ends}
use Rattle.mcs_verdict_laws.proofs.untaken_ends_with_a_miss.Goals as goal

pub returns : goal.returns
returns c = untaken-ends
