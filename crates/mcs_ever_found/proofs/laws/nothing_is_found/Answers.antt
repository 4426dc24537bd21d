use Rattle.mcs_ever_found.proofs.Findings.{nothing-is-found}
use Rattle.mcs_ever_found.proofs.laws.nothing_is_found.Goals as goal

pub returns : goal.returns
returns c = nothing-is-found
