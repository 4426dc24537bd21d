use Rattle.std.proofs.Common.{◌+◌}
use Rattle.mcs_window.specs.stored.Cores.{AreIdleBelow}
use Rattle.mcs_window.proofs.desk.Desk.idle_until.Given as goal

abbrev pub invariant-loop-core : goal.invariant-loop-core
invariant-loop-core g l = AreIdleBelow l.self.system l.self.clocks (l.self.horizon + 1) l.core l.until
