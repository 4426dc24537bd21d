use Rattle.mcs_ever.proofs.Repeats.{turns-repeat}
use Rattle.mcs_ever.proofs.laws.turns_repeat.Goals as goal

pub returns : goal.returns
returns c = turns-repeat
