use Rattle.std.proofs.Common.{◌<◌, ◌≤◌, ◌+◌, ◌-◌, ◌*◌, ℕ}
use Rattle.std.specs.Prelude.{slice_index}
use Rattle.mcs_step.proofs.calendar.first_of.Given as goal

abbrev pub invariant-cores : goal.invariant-cores
invariant-cores l = record {
  from : 8 * l.group ≤ l.core;
  below : l.core < 8 * l.group + 8;
  before : (c : ℕ) → 8 * l.group ≤ c → c < l.core → l.moment < slice_index l.next c;
}

abbrev pub decreases-cores : goal.decreases-cores
decreases-cores l = 64 - l.core
