use Rattle.mcs_report.proofs.Demand.{demand}
use Rattle.mcs_report.proofs.laws.demand_is_bounded.Goals as goal

pub returns : goal.returns
returns c = demand
