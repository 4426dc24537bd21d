use Rattle.mcs_verdict_laws.proofs.Running.{running_ran}
use Rattle.mcs_verdict_laws.proofs.running_is_ran.Goals as goal

pub returns : goal.returns
returns c = running_ran
