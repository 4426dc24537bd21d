use Rattle.mcs_table.proofs.Exact.{rounds-exact}
use Rattle.mcs_table.proofs.laws.rounds_are_exact.Goals as goal

pub returns : goal.returns
returns c = rounds-exact
