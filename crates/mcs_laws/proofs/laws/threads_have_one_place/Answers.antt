use Rattle.mcs_laws.proofs.Histories.{takes-time}
use Rattle.mcs_laws.proofs.Places.{one-place}
use Rattle.mcs_laws.proofs.laws.threads_have_one_place.Goals as goal

pub returns : goal.returns
returns c = λ system well. one-place system (takes-time system well)
