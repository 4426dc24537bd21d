use Rattle.mcs_ever.proofs.Repeats.{never-late}
use Rattle.mcs_ever.proofs.laws.never_late.Goals as goal

pub returns : goal.returns
returns c = never-late
