use Rattle.mcs_laws.proofs.Histories.{takes-time, gives-budgets}
use Rattle.mcs_laws.proofs.laws.well_formed_systems_give_budgets.Goals as goal

pub returns-clause-signals_take_time : goal.returns-clause-signals_take_time
returns-clause-signals_take_time c = takes-time

pub returns-clause-budgets : goal.returns-clause-budgets
returns-clause-budgets c = gives-budgets
