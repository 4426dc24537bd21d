use Rattle.mcs_window.specs.stored.Opening.{AreDelays}
use Rattle.mcs_window.proofs.opening.delay_rows.Given as goal

abbrev pub invariant-loop-core : goal.invariant-loop-core
invariant-loop-core l = AreDelays l.system l.core l.rows.items
