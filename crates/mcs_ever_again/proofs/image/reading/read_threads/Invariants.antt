use Rattle.std.proofs.Common.{◌≡◌, take}
use Rattle.mcs_ever_again.proofs.image.reading.read_threads.Given as goal

abbrev pub invariant-loop-i : goal.invariant-loop-i
invariant-loop-i l = l.threads.items ≡ take l.i l.state.core.threads
