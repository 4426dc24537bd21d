use Rattle.mcs_stretch.proofs.Joins.{inbox-joined}
use Rattle.mcs_stretch.proofs.laws.inboxes_join.Goals as goal

pub returns : goal.returns
returns c = inbox-joined
