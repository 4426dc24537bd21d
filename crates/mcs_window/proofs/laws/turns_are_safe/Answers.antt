use Rattle.mcs_window.proofs.Orders as orders
use Rattle.mcs_window.proofs.laws.turns_are_safe.Goals as goal

pub returns : goal.returns
returns c = orders.safe-turns
