use Rattle.mcs_report.proofs.Schedules.{apart}
use Rattle.mcs_report.proofs.laws.schedules_run_apart.Goals as goal

pub returns : goal.returns
returns c = apart
