use Rattle.std.proofs.Common.{ℕ, ◌+◌, ◌≤◌, ◌<◌}
use Rattle.mcs_window.specs.Desk.{clock_of}
use Rattle.mcs_check.proofs.rounds.least_clock.Given as goal

abbrev pub invariant-loop-core : goal.invariant-loop-core
invariant-loop-core g l =
    ((c : ℕ) → c < l.core → l.least ≤ clock_of l.desk c) × ((c : ℕ) → c < l.core → clock_of l.desk c ≤ l.desk.horizon + 1) × (l.least ≤ l.desk.horizon + 1)
    × ((to : ℕ) → to ≤ l.desk.horizon + 1 → ((c : ℕ) → c < l.desk.system.cores → to ≤ clock_of l.desk c) → to ≤ l.least)
