use Rattle.mcs_window.specs.stored.Opening.{AreOpening}
use Rattle.mcs_window.proofs.opening.opening_states.Given as goal

abbrev pub invariant-loop-core : goal.invariant-loop-core
invariant-loop-core l = AreOpening l.system l.core l.states.items
