use Rattle.mcs_text.proofs.Moments.{texts_of_moments}
use Rattle.mcs_text.proofs.laws.texts_are_of_moments.Goals as goal

pub returns : goal.returns
returns c = texts_of_moments
