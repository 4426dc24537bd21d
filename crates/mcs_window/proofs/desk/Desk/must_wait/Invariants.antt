use Rattle.std.proofs.Common.{◌<◌}
use Rattle.mcs_window.proofs.Lending.{past_by}
use Rattle.mcs_window.proofs.desk.Desk.must_wait.Given as goal

abbrev pub invariant-loop-other : goal.invariant-loop-other
invariant-loop-other g l = l.fn.moment < past_by l.self l.fn.core l.other
