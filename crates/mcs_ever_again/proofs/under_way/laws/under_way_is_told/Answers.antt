use Rattle.mcs_ever_again.proofs.Clock.{under_way-told}
use Rattle.mcs_ever_again.proofs.under_way.laws.under_way_is_told.Goals as goal

pub returns : goal.returns
returns c = λ system well. under_way-told system well
