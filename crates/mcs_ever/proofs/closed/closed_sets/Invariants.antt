use Rattle.mcs_ever.proofs.Closing.{AreLeastUntil}
use Rattle.mcs_ever.proofs.closed.closed_sets.Given as goal

abbrev pub invariant-loop-core : goal.invariant-loop-core
invariant-loop-core l = AreLeastUntil l.system l.core l.sets.items
