use Rattle.std.proofs.Common.{◌≡◌, take}
use Rattle.mcs_ever_again.proofs.image.reading.read_notes.Given as goal

abbrev pub invariant-loop-i : goal.invariant-loop-i
invariant-loop-i l = l.notes.items ≡ take l.i l.state.core.notes
