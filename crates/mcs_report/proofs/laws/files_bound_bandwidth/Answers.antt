use Rattle.mcs_report.proofs.Bandwidth.{without-orders}
use Rattle.mcs_report.proofs.laws.files_bound_bandwidth.Goals as goal

pub returns : goal.returns
returns c = without-orders
