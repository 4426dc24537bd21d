use Rattle.mcs_way.proofs.Answered.{sought-has}
use Rattle.mcs_way.proofs.laws.answers_have_ways.Goals as goal

pub returns : goal.returns
returns c = sought-has
