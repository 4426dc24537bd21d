use Rattle.mcs_laws.proofs.Bandwidth.{stretches-within-bandwidth, bandwidth-bounded}
use Rattle.mcs_laws.proofs.laws.bandwidth_is_bounded.Goals as goal

pub returns-clause-stretches : goal.returns-clause-stretches
returns-clause-stretches c = stretches-within-bandwidth

pub returns-clause-without_orders : goal.returns-clause-without_orders
returns-clause-without_orders c = bandwidth-bounded
