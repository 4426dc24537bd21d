use Rattle.mcs_ever_found.proofs.Greatest.{greatest-is-forever}
use Rattle.mcs_ever_found.proofs.laws.greatest_is_forever.Goals as goal

pub returns : goal.returns
returns c = greatest-is-forever
