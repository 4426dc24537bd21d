use Rattle.mcs_laws.proofs.Moments.{threads-on-time}
use Rattle.mcs_laws.proofs.laws.threads_are_on_time.Goals as goal

pub returns : goal.returns
returns c = threads-on-time
