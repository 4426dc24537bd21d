use Rattle.mcs_window.specs.Desk.{IsBest}
use Rattle.mcs_window.proofs.desk.Desk.choice.Given as goal

abbrev pub invariant-loop-core : goal.invariant-loop-core
invariant-loop-core g l = IsBest l.self l.core l.chosen
