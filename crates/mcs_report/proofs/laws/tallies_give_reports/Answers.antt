use Rattle.mcs_report.proofs.Agree.{agree}
use Rattle.mcs_report.proofs.laws.tallies_give_reports.Goals as goal

pub returns : goal.returns
returns c = agree
