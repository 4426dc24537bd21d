use Rattle.mcs_report.proofs.CoreRows.{core-tallies-report}
use Rattle.mcs_report.proofs.laws.core_tallies_give_reports.Goals as goal

pub returns : goal.returns
returns c = core-tallies-report
