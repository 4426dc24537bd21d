use Rattle.mcs_stretch.proofs.Stretches.{stretches}
use Rattle.mcs_stretch.proofs.laws.stretches_are_turns.Goals as goal

pub returns : goal.returns
returns c = stretches
