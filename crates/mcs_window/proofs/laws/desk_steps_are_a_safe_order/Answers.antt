use Rattle.mcs_window.proofs.Steps.{safe-order}
use Rattle.mcs_window.proofs.laws.desk_steps_are_a_safe_order.Goals as goal

pub returns : goal.returns
returns c = safe-order
