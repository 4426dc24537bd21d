use Rattle.mcs_core.proofs.Clock.{rows-clock}
use Rattle.mcs_laws.proofs.Histories.{takes-time}
use Rattle.mcs_laws.proofs.laws.rows_are_of_turns.Goals as goal

pub returns : goal.returns
returns c = λ system well. rows-clock system (takes-time system well)
