use Rattle.mcs_laws.proofs.InForce.{budgets-in-force}
use Rattle.mcs_laws.proofs.laws.contexts_have_the_budget_in_force.Goals as goal

pub returns : goal.returns
returns c = budgets-in-force
