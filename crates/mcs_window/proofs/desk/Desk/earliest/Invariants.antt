use Rattle.mcs_window.specs.stored.Slots.{IsEarliest}
use Rattle.mcs_window.proofs.desk.Desk.earliest.Given as goal

abbrev pub invariant-loop-core : goal.invariant-loop-core
invariant-loop-core g l = IsEarliest l.self l.core l.found
