use Rattle.std.proofs.Common.{◌≡◌, ◌<◌, ◌≤◌, ◌+◌, ℕ}
use Rattle.std.specs.Prelude.{slice_index}
use Rattle.mcs_stretch.specs.Idle.{IsIdle}
use Rattle.mcs_window.proofs.desk.Desk.look_ahead.Given as goal

abbrev pub invariant-loop-core : goal.invariant-loop-core
invariant-loop-core g l = record {
  in_time : l.moment ≤ l.self.horizon + 1;
  stale : l.calendar.stale ≡ l.initial.calendar.stale;
  done : (c : ℕ) → c < l.core → IsIdle l.self.system l.self.clocks (slice_index l.calendar.until c) c;
  sooner : (c : ℕ) → c < l.core → l.moment ≤ slice_index l.calendar.until c;
  left : (c : ℕ) → l.core ≤ c → slice_index l.calendar.until c ≡ slice_index l.initial.calendar.until c;
}
