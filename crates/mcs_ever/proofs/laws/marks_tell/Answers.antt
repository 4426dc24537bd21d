use Rattle.mcs_ever.proofs.Marking.{marks-tell}
use Rattle.mcs_ever.proofs.laws.marks_tell.Goals as goal

pub returns : goal.returns
returns c = marks-tell
