use Rattle.mcs_spin.proofs.Worlds.{rows-spun}
use Rattle.mcs_spin.proofs.laws.rows_are_spun.Goals as goal

pub returns : goal.returns
returns c = λ system well. rows-spun system
