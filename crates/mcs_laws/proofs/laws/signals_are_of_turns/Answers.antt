use Rattle.mcs_laws.proofs.Histories.{takes-time}
use Rattle.mcs_laws.proofs.UnderWay.{signals-of-turns, arrivals-of-turns}
use Rattle.mcs_laws.proofs.laws.signals_are_of_turns.Goals as goal

pub returns-clause-under_way : goal.returns-clause-under_way
returns-clause-under_way c = λ system well. signals-of-turns system (takes-time system well)

pub returns-clause-arriving : goal.returns-clause-arriving
returns-clause-arriving c = λ system well. arrivals-of-turns system (takes-time system well)
