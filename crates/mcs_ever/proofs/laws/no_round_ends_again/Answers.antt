use Rattle.mcs_ever.proofs.Repeats.{no-round-ends-again}
use Rattle.mcs_ever.proofs.laws.no_round_ends_again.Goals as goal

pub returns : goal.returns
returns c = no-round-ends-again
