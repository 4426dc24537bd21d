use Rattle.mcs_window.proofs.Moves.{calls-moves, moves-join}
use Rattle.mcs_window.proofs.laws.core_calls_are_moves.Goals as goal

pub returns-clause-calls : goal.returns-clause-calls
returns-clause-calls c = calls-moves

pub returns-clause-join : goal.returns-clause-join
returns-clause-join c = moves-join
