use Rattle.mcs_verdict_laws.proofs.Ended.{parts_sum}
use Rattle.mcs_verdict_laws.proofs.parts_sum_to_responses.Goals as goal

pub returns : goal.returns
returns c = parts_sum
