use Rattle.std.specs.Arc.{arc_value}
use Rattle.mcs_window.specs.stored.Slots.{AreFresh}
use Rattle.mcs_window.proofs.slot.opening_slots.Given as goal

abbrev pub invariant-loop-core : goal.invariant-loop-core
invariant-loop-core l = AreFresh (arc_value l.system) l.core l.slots.items
