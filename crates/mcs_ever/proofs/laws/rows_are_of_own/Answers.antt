use Rattle.mcs_ever.proofs.Home.{rows-of-own}
use Rattle.mcs_ever.proofs.laws.rows_are_of_own.Goals as goal

pub returns : goal.returns
returns c = rows-of-own
