use Rattle.mcs_server_laws.proofs.Calls.{calls-wait}
use Rattle.mcs_server_laws.proofs.Ceiling.{runs-above, none-calls, none-overtakes}
use Rattle.mcs_server_laws.proofs.ready_holders_are_not_overtaken.Goals as goal

pub returns-clause-runs_above : goal.returns-clause-runs_above
returns-clause-runs_above c = λ system well nest ceiling are. runs-above system well nest ceiling are

pub returns-clause-none_calls : goal.returns-clause-none_calls
returns-clause-none_calls c = λ system well nest ceiling are. none-calls system well nest ceiling are

pub returns-clause-none_overtakes : goal.returns-clause-none_overtakes
returns-clause-none_overtakes c = λ system well nest ceiling are. none-overtakes system well nest ceiling are

pub returns-clause-calls_wait : goal.returns-clause-calls_wait
returns-clause-calls_wait c = λ system well nest ceiling are. calls-wait system well nest ceiling are
