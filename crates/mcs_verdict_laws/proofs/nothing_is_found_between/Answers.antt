use Rattle.mcs_verdict_laws.proofs.Between.{nothing-between}
use Rattle.mcs_verdict_laws.proofs.nothing_is_found_between.Goals as goal

pub returns : goal.returns
returns c = nothing-between
