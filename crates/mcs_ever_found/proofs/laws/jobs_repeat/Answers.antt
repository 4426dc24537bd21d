use Rattle.mcs_ever_found.proofs.Findings.{jobs-repeat}
use Rattle.mcs_ever_found.proofs.laws.jobs_repeat.Goals as goal

pub returns : goal.returns
returns c = jobs-repeat
