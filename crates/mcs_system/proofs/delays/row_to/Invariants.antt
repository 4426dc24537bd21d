use Rattle.mcs_system.proofs.Linked.{AreTo}
use Rattle.mcs_system.proofs.delays.row_to.Given as goal

abbrev pub invariant-loop-i : goal.invariant-loop-i
invariant-loop-i l = AreTo l.links l.delay l.delays l.home l.i
