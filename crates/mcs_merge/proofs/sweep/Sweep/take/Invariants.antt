use Rattle.std.proofs.Common.{◌≡◌, ℕ, ◌-◌, ◌<◌, ◌≤◌, false}
use Rattle.mcs_merge.specs.stored.Sweep.{has}
use Rattle.mcs_merge.proofs.sweep.Sweep.take.Given as goal

abbrev pub invariant-moments : goal.invariant-moments
invariant-moments l = record {
  later : l.initial.at ≤ l.at;
  within : l.at < 256;
  none : (place d : ℕ) → l.initial.at ≤ place → place < l.at → has l.self-inside.sets place d ≡ false;
}

abbrev pub decreases-moments : goal.decreases-moments
decreases-moments l = 256 - l.at
