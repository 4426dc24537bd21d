use Rattle.mcs_ever_chain.proofs.Forever.{none-is-longer}
use Rattle.mcs_ever_chain.proofs.laws.none_is_longer.Goals as goal

pub returns : goal.returns
returns c = none-is-longer
