use Rattle.mcs_verdict_laws.proofs.Ended.{ages_sum}
use Rattle.mcs_verdict_laws.proofs.parts_sum_to_ages.Goals as goal

pub returns : goal.returns
returns c = ages_sum
