use Rattle.mcs_stretch.proofs.Apart.{orders-give}
use Rattle.mcs_stretch.proofs.laws.orders_give_the_schedule.Goals as goal

pub returns : goal.returns
returns c = orders-give
