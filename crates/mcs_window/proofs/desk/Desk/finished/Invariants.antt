use Rattle.std.proofs.Common.{◌≡◌, ◌<◌, ◌+◌, ℕ}
use Rattle.mcs_window.specs.Desk.{clock_of}
use Rattle.mcs_window.proofs.desk.Desk.finished.Given as goal

abbrev pub invariant-loop-core : goal.invariant-loop-core
invariant-loop-core g l = (c : ℕ) → c < l.core → clock_of l.self c ≡ l.self.horizon + 1
