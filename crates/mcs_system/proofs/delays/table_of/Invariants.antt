use Rattle.std.proofs.Common.{drop}
use Rattle.mcs_system.specs.stored.Delays.{AreDelays}
use Rattle.mcs_system.proofs.delays.table_of.Given as goal

abbrev pub invariant-loop-i : goal.invariant-loop-i
invariant-loop-i l = AreDelays (drop l.i l.links) l.delay l.delays
