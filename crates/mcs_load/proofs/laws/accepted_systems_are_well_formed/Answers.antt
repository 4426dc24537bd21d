use Rattle.mcs_load.proofs.WellFormed.{accepted_is_well_formed}
use Rattle.mcs_load.proofs.laws.accepted_systems_are_well_formed.Goals as goal

pub returns : goal.returns
returns c = accepted_is_well_formed
