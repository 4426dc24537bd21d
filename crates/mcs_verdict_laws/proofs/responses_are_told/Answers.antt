use Rattle.mcs_verdict_laws.proofs.Responses.{responses_told}
use Rattle.mcs_verdict_laws.proofs.responses_are_told.Goals as goal

pub returns : goal.returns
returns c = responses_told
