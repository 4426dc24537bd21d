use Rattle.std.proofs.Common.{◌≡◌, ℕ, ◌<◌, get_or, length}
use Rattle.mcs_core.specs.Core.{no_state}
use Rattle.mcs_ever.specs.Later.{later_thread}
use Rattle.mcs_ever_again.proofs.image.threads.thread_lags.Given as goal

abbrev pub invariant-loop-i : goal.invariant-loop-i
invariant-loop-i l = record {
  since : length l.since.items ≡ l.i;
  rounds : length l.rounds.items ≡ l.i;
  later : (past k : ℕ) → k < l.i → get_or l.after k no_state
      ≡ later_thread (get_or l.since.items k past) (get_or l.rounds.items k 0) (get_or l.before k no_state);
}
