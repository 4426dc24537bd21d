use Rattle.std.proofs.Common.{◌≡◌, ◌<◌, ◌≤◌, ◌*◌, ℕ}
use Rattle.std.specs.Prelude.{slice_index}
use Rattle.mcs_step.proofs.calendar.soonest_of.Given as goal

abbrev pub invariant-loop-core : goal.invariant-loop-core
invariant-loop-core l = record {
  is : (core : ℕ) × (8 * l.group ≤ core) × (core < l.core) × (slice_index l.next core ≡ l.soonest);
  least : (c : ℕ) → 8 * l.group ≤ c → c < l.core → l.soonest ≤ slice_index l.next c;
}
