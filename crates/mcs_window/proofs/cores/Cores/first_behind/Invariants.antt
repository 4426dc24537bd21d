use Rattle.std.proofs.Common.{ℕ, ◌<◌}
use Rattle.mcs_window.specs.Progress.{IsBehind}
use Rattle.mcs_window.proofs.cores.Cores.first_behind.Given as goal

abbrev pub invariant-loop-other : goal.invariant-loop-other
invariant-loop-other l = (b : ℕ) → b < l.other → ¬ IsBehind l.self l.fn.core b
