use Rattle.mcs_window.proofs.Orders as orders
use Rattle.mcs_window.proofs.laws.the_least_may_step.Goals as goal

pub returns : goal.returns
returns c = orders.least-steps
