use Rattle.mcs_window.specs.stored.Slots.{HaveSkipped}
use Rattle.mcs_window.proofs.skip.skip_slots.Given as goal

abbrev pub invariant-loop-core : goal.invariant-loop-core
invariant-loop-core l = HaveSkipped l.system l.initial.clocks l.moment l.core l.clocks l.slots
