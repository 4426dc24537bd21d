use Rattle.std.proofs.Common.{◌≡◌, ◌%◌}
use Rattle.mcs_core.proofs.AlarmsTree.{IsJoined}
use Rattle.mcs_core.proofs.alarms.join_above.Given as goal

abbrev pub invariant-loop-level : goal.invariant-loop-level
invariant-loop-level l = (l.first % 2 ≡ 0) × IsJoined l.levels l._level l.first l.fn.tree l.tree
