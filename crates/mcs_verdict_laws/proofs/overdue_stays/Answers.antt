use Rattle.mcs_verdict_laws.proofs.Horizons.{overdue-stays}
use Rattle.mcs_verdict_laws.proofs.overdue_stays.Goals as goal

pub returns : goal.returns
returns c = overdue-stays
