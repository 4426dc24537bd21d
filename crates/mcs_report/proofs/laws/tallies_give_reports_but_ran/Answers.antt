use Rattle.mcs_report.proofs.Agree.{agree_but_ran}
use Rattle.mcs_report.proofs.laws.tallies_give_reports_but_ran.Goals as goal

pub returns : goal.returns
returns c = agree_but_ran
