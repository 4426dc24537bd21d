use Rattle.mcs_way.proofs.Active.{legs-active}
use Rattle.mcs_way.proofs.laws.legs_are_active.Goals as goal

pub returns : goal.returns
returns c = legs-active
