use Rattle.mcs_window.proofs.Moves.{moves-safe}
use Rattle.mcs_window.proofs.laws.core_moves_are_a_safe_order.Goals as goal

pub returns : goal.returns
returns c = moves-safe
