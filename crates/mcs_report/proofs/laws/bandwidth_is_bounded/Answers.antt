use Rattle.mcs_report.proofs.Bandwidth.{bandwidth}
use Rattle.mcs_report.proofs.laws.bandwidth_is_bounded.Goals as goal

pub returns : goal.returns
returns c = bandwidth
