use Rattle.mcs_window.proofs.Steps.{scripts-order}
use Rattle.mcs_window.proofs.laws.desk_steps_are_safe_by_scripts.Goals as goal

pub returns : goal.returns
returns c = scripts-order
