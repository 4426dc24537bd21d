use Rattle.mcs_window.proofs.Reaching.{IsFarBy}
use Rattle.mcs_window.proofs.desk.Desk.farthest.Given as goal

abbrev pub invariant-loop-other : goal.invariant-loop-other
invariant-loop-other g l = IsFarBy l.self l.fn.core l.other l.past
