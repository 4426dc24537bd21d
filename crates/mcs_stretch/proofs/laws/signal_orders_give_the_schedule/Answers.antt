use Rattle.mcs_stretch.proofs.Apart.{scripts-signals, signal-orders-give}
use Rattle.mcs_stretch.proofs.laws.signal_orders_give_the_schedule.Goals as goal

pub returns-clause-by_scripts : goal.returns-clause-by_scripts
returns-clause-by_scripts c = scripts-signals

pub returns-clause-schedule : goal.returns-clause-schedule
returns-clause-schedule c = signal-orders-give
