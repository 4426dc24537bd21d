use Rattle.std.proofs.Common.{◌≡◌, ◌<◌, ◌≤◌, ℕ}
use Rattle.std.specs.Prelude.{slice_index}
use Rattle.mcs_step.proofs.calendar.Calendar.first.Given as goal

abbrev pub invariant-loop-other : goal.invariant-loop-other
invariant-loop-other l = record {
  known : l.group < l.other;
  is : slice_index l.self-inside.soonest l.group ≡ l.moment;
  before : (h : ℕ) → h < l.group → l.moment < slice_index l.self-inside.soonest h;
  from : (h : ℕ) → l.group ≤ h → h < l.other → l.moment ≤ slice_index l.self-inside.soonest h;
}
