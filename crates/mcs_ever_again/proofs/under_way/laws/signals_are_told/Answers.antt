use Rattle.mcs_ever_again.proofs.Clock.{signals-told}
use Rattle.mcs_ever_again.proofs.under_way.laws.signals_are_told.Goals as goal

pub returns : goal.returns
returns c = λ system well. signals-told system well
