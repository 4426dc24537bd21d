use Rattle.mcs_ever_chain.proofs.Forever.{greatest-is-forever}
use Rattle.mcs_ever_chain.proofs.laws.greatest_is_forever.Goals as goal

pub returns : goal.returns
returns c = greatest-is-forever
