use Rattle.mcs_report.proofs.Schedules.{reported}
use Rattle.mcs_report.proofs.laws.schedules_are_reported.Goals as goal

pub returns : goal.returns
returns c = reported
