use Rattle.mcs_stretch.proofs.Safe.{safe-by_scripts}
use Rattle.mcs_stretch.proofs.laws.safe_orders_are_by_scripts.Goals as goal

pub returns : goal.returns
returns c = safe-by_scripts
