use Rattle.mcs_laws.proofs.Histories.{histories}
use Rattle.mcs_laws.proofs.laws.contexts_have_histories.Goals as goal

pub returns : goal.returns
returns c = histories
