use Rattle.mcs_window.proofs.Calls.{calls-steps, steps-join}
use Rattle.mcs_window.proofs.laws.desk_calls_are_steps.Goals as goal

pub returns-clause-calls : goal.returns-clause-calls
returns-clause-calls c = calls-steps

pub returns-clause-join : goal.returns-clause-join
returns-clause-join c = steps-join
