use Rattle.mcs_laws.proofs.Demand.{stretches-within-demand, orders-begin-demand, within-demand}
use Rattle.mcs_laws.proofs.laws.threads_run_within_demand.Goals as goal

pub returns-clause-stretches : goal.returns-clause-stretches
returns-clause-stretches c = stretches-within-demand

pub returns-clause-after_orders : goal.returns-clause-after_orders
returns-clause-after_orders c = orders-begin-demand

pub returns-clause-from_start : goal.returns-clause-from_start
returns-clause-from_start c = within-demand
