use Rattle.std.proofs.Common.{◌≡◌, length}
use Rattle.mcs_core.proofs.Opening.{opened_notes}
use Rattle.mcs_core.proofs.open.opening_notes.Given as goal

abbrev pub invariant-loop-i : goal.invariant-loop-i
invariant-loop-i l = record {
  notes : l.notes.notes ≡ opened_notes l.i l.system.notes;
  threads : l.notes.threads ≡ length l.system.threads;
}
