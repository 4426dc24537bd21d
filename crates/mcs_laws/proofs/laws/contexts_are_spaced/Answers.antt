use Rattle.mcs_laws.proofs.Spaced.{contexts-spaced}
use Rattle.mcs_laws.proofs.laws.contexts_are_spaced.Goals as goal

pub returns : goal.returns
returns c = contexts-spaced
