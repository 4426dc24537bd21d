use Rattle.mcs_refills.proofs.Slices.{slices-spent}
use Rattle.mcs_refills.proofs.laws.slices_are_spent.Goals as goal

pub returns : goal.returns
returns c = slices-spent
