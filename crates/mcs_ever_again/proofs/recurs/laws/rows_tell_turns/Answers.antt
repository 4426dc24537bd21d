use Rattle.mcs_ever_again.proofs.Schedule.{rows-tell}
use Rattle.mcs_ever_again.proofs.recurs.laws.rows_tell_turns.Goals as goal

pub returns : goal.returns
returns c = λ system well. rows-tell system (c.rows_are_of_turns.ensures system well)
