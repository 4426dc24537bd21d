use Rattle.std.proofs.Common.{◌≡◌, ◌<◌, ℕ, None}
use Rattle.mcs_window.specs.Desk.{loan_of}
use Rattle.mcs_window.proofs.desk.Desk.all_are_here.Given as goal

abbrev pub invariant-loop-core : goal.invariant-loop-core
invariant-loop-core g l = (c : ℕ) → c < l.core → loan_of l.self c ≡ None
