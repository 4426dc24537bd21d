use Rattle.mcs_system.specs.WellFormed.{DoPrecede}
use Rattle.mcs_system.proofs.InOrder.{OrderedBelow}
use Rattle.mcs_system.proofs.well_formed.are_in_order.Given as goal

abbrev pub invariant-loop-i : goal.invariant-loop-i
invariant-loop-i l = OrderedBelow DoPrecede l.beats l.i
