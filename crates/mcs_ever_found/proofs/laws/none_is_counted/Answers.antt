use Rattle.mcs_ever_found.proofs.Counted.{none-is-counted}
use Rattle.mcs_ever_found.proofs.laws.none_is_counted.Goals as goal

pub returns : goal.returns
returns c = none-is-counted
