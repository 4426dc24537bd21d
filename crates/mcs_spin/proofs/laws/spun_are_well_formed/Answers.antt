use Rattle.mcs_spin.proofs.WellFormed.{well-spun}
use Rattle.mcs_spin.proofs.laws.spun_are_well_formed.Goals as goal

pub returns : goal.returns
returns c = well-spun
