use Rattle.mcs_ever_chain.proofs.Repeating.{sets-recur}
use Rattle.mcs_ever_chain.proofs.laws.told_sets_recur.Goals as goal

pub returns : goal.returns
returns c = λ system allowed horizon told are. sets-recur system allowed horizon told are
