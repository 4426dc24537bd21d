use Rattle.mcs_window.proofs.Moves.{moves-signals}
use Rattle.mcs_window.proofs.laws.core_moves_are_safe_by_signals.Goals as goal

pub returns : goal.returns
returns c = moves-signals
