use Rattle.mcs_window.specs.stored.Reaches.{AreDelaysFrom}
use Rattle.mcs_window.proofs.reach.delays_from.Given as goal

abbrev pub invariant-loop-core : goal.invariant-loop-core
invariant-loop-core l = AreDelaysFrom l.system l.core l.rows.items
