use Rattle.mcs_laws.proofs.Stretches.{files-in-force}
use Rattle.mcs_laws.proofs.laws.files_stay_in_force.Goals as goal

pub returns : goal.returns
returns c = files-in-force
