use Rattle.mcs_core.proofs.Clock.{core_at-world}
use Rattle.mcs_laws.proofs.Histories.{takes-time}
use Rattle.mcs_laws.proofs.laws.cores_are_of_turns.Goals as goal

pub returns : goal.returns
returns c = λ system well. core_at-world system (takes-time system well)
