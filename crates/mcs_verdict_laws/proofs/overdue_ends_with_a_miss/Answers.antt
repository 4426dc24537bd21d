use Rattle.mcs_verdict_laws.proofs.Horizons.{overdue-ends}
use Rattle.mcs_verdict_laws.proofs.overdue_ends_with_a_miss.Goals as goal

pub returns : goal.returns
returns c = overdue-ends
