use Rattle.mcs_ever_found.proofs.Spent.{never-spent}
use Rattle.mcs_ever_found.proofs.laws.never_spent.Goals as goal

pub returns : goal.returns
returns c = never-spent
