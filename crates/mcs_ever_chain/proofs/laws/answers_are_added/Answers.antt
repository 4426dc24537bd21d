use Rattle.mcs_ever_chain.proofs.Forever.{answers-are-added}
use Rattle.mcs_ever_chain.proofs.laws.answers_are_added.Goals as goal

pub returns : goal.returns
returns c = answers-are-added
