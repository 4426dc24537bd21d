use Rattle.std.proofs.Common.{None, drop}
use Rattle.mcs_ever.specs.Closed.{has}
use Rattle.mcs_ever_chain.specs.stored.Alone.{AreAlone}
use Rattle.mcs_ever_chain.proofs.alone.stand_alone.Given as goal

-- if the other rows stand alone, all do
abbrev pub invariant-loop-row : goal.invariant-loop-row
invariant-loop-row l = AreAlone (has l.set) l.before (drop l.row-index l.rows) → AreAlone (has l.set) None l.rows
