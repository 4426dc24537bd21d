use Rattle.mcs_report.proofs.ByCore.{cores-counted}
use Rattle.mcs_report.proofs.laws.cores_are_counted.Goals as goal

pub returns : goal.returns
returns c = cores-counted
