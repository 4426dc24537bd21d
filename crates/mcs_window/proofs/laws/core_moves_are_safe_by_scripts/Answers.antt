use Rattle.mcs_window.proofs.Moves.{moves-scripts}
use Rattle.mcs_window.proofs.laws.core_moves_are_safe_by_scripts.Goals as goal

pub returns : goal.returns
returns c = moves-scripts
