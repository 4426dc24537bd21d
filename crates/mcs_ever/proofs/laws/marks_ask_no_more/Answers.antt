use Rattle.mcs_ever.proofs.Marking.{marks-ask-no-more}
use Rattle.mcs_ever.proofs.laws.marks_ask_no_more.Goals as goal

pub returns : goal.returns
returns c = marks-ask-no-more
