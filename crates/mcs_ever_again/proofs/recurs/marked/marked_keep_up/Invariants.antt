use Rattle.std.proofs.Common.{ℕ, ◌<◌, get_or}
use Rattle.mcs_ever.specs.Marks.{no_mark}
use Rattle.mcs_ever_again.specs.Told.{OwnKeepsUp}
use Rattle.mcs_ever_again.proofs.recurs.marked.marked_keep_up.Given as goal

abbrev pub invariant-loop-thread : goal.invariant-loop-thread
invariant-loop-thread l = (thread : ℕ) → thread < l.thread → OwnKeepsUp l.system l.by l.group l.lags (get_or l.marks thread no_mark) thread
