use Rattle.mcs_way.proofs.Parts.{parts-lead}
use Rattle.mcs_way.proofs.laws.parts_sum.Goals as goal

pub returns : goal.returns
returns c = parts-lead
