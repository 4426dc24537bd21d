use Rattle.mcs_window.specs.stored.Opening.{AreEmptyBoxes}
use Rattle.mcs_window.proofs.opening.empty_boxes.Given as goal

abbrev pub invariant-loop : goal.invariant-loop
invariant-loop l = AreEmptyBoxes l.counter l.boxes.items
