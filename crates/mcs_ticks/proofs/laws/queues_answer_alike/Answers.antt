use Rattle.mcs_ticks.proofs.Queues.{answer_alike}
use Rattle.mcs_ticks.proofs.laws.queues_answer_alike.Goals as goal

pub returns : goal.returns
returns c = answer_alike
