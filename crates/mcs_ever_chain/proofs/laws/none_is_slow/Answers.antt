use Rattle.mcs_ever_chain.proofs.Forever.{none-is-slow}
use Rattle.mcs_ever_chain.proofs.laws.none_is_slow.Goals as goal

pub returns : goal.returns
returns c = none-is-slow
