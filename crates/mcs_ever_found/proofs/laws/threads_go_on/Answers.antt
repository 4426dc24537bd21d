use Rattle.mcs_ever_found.proofs.Threads.{threads-go-on}
use Rattle.mcs_ever_found.proofs.laws.threads_go_on.Goals as goal

pub returns : goal.returns
returns c = threads-go-on
