use Rattle.std.proofs.Common.{◌<◌, ◌≤◌, ℕ}
use Rattle.std.specs.Prelude.{slice_index_or}
use Rattle.mcs_mail.specs.Box.{Content}
use Rattle.mcs_window.specs.stored.Delivery.{count_for, AreSameMail}
use Rattle.mcs_window.proofs.delivery.make_room.Given as goal

abbrev pub invariant-loop-core : goal.invariant-loop-core
invariant-loop-core l = record {
  same : AreSameMail l.fn.boxes l.boxes;
  room : (c : ℕ) (x : Content) → c < l.core → count_for l.system c l.signals ≤ (slice_index_or l.boxes c x).spare;
}
