use Rattle.mcs_release.proofs.Order.{leave_in_order}
use Rattle.mcs_release.proofs.laws.equal_dates_leave_in_order.Goals as goal

pub returns : goal.returns
returns c = leave_in_order
