use Rattle.mcs_verdict.proofs.ByCore.{cores_watched}
use Rattle.mcs_verdict.proofs.laws.cores_are_watched.Goals as goal

pub returns : goal.returns
returns c = cores_watched
