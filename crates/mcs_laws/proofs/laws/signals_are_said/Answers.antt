use Rattle.mcs_laws.proofs.Links.{signals-said}
use Rattle.mcs_laws.proofs.laws.signals_are_said.Goals as goal

pub returns : goal.returns
returns c = signals-said
