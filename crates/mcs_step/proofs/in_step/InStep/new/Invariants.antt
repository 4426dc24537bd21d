use Rattle.mcs_window.specs.stored.Opening.{AreOpening, AreEmptyBoxes}
use Rattle.std.specs.Arc.{arc_value}
use Rattle.mcs_step.proofs.Opened.{AreFirstQuiet}
use Rattle.mcs_step.proofs.in_step.InStep.new.Given as goal

abbrev pub invariant-loop-core : goal.invariant-loop-core
invariant-loop-core l = record {
  states : AreOpening (arc_value l.fn.system) l.core l.states.items;
  boxes : AreEmptyBoxes l.core l.boxes.items;
  next : AreFirstQuiet (arc_value l.fn.system) l.fn.horizon l.core l.next;
}
