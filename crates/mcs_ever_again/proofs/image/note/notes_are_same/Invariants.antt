use Rattle.std.proofs.Common.{◌≡◌, ℕ, ◌<◌, get_or}
use Rattle.mcs_notify.specs.Note.{quiet_note}
use Rattle.mcs_ever_again.proofs.image.note.notes_are_same.Given as goal

abbrev pub invariant-loop-i : goal.invariant-loop-i
invariant-loop-i l = (k : ℕ) → k < l.i → get_or l.after k quiet_note ≡ get_or l.before k quiet_note
