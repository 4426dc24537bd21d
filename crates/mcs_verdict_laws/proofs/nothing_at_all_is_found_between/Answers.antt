use Rattle.mcs_verdict_laws.proofs.Between.{nothing-at-all}
use Rattle.mcs_verdict_laws.proofs.nothing_at_all_is_found_between.Goals as goal

pub returns : goal.returns
returns c = nothing-at-all
