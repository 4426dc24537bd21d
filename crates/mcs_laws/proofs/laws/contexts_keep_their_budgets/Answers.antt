use Rattle.mcs_laws.proofs.Histories.{budgets-kept}
use Rattle.mcs_laws.proofs.laws.contexts_keep_their_budgets.Goals as goal

pub returns : goal.returns
returns c = budgets-kept
