use Rattle.mcs_ever_chain.proofs.Forever.{slow-are-added}
use Rattle.mcs_ever_chain.proofs.laws.slow_are_added.Goals as goal

pub returns : goal.returns
returns c = slow-are-added
