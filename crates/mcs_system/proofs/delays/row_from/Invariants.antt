use Rattle.mcs_system.proofs.Linked.{AreFrom}
use Rattle.mcs_system.proofs.delays.row_from.Given as goal

abbrev pub invariant-loop-i : goal.invariant-loop-i
invariant-loop-i l = AreFrom l.links l.delay l.delays l.maker l.i
