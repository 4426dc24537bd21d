use Rattle.mcs_ever_chain.proofs.Forever.{none-is-left}
use Rattle.mcs_ever_chain.proofs.laws.none_is_left.Goals as goal

pub returns : goal.returns
returns c = none-is-left
