use Rattle.mcs_ever_found.proofs.Never.{no-deadline-is-missed}
use Rattle.mcs_ever_found.proofs.laws.no_deadline_is_missed.Goals as goal

pub returns : goal.returns
returns c = no-deadline-is-missed
