use Rattle.mcs_report.proofs.Ticks.{runs-ticks}
use Rattle.mcs_report.proofs.laws.runs_are_ticks.Goals as goal

pub returns : goal.returns
returns c = runs-ticks
