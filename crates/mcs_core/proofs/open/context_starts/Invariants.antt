use Rattle.std.proofs.Common.{◌≡◌, ℕ, ◌<◌, length, get_or, drop}
use Rattle.mcs_system.specs.System.{start_of}
use Rattle.mcs_core.proofs.open.context_starts.Given as goal

abbrev pub invariant-loop-i : goal.invariant-loop-i
invariant-loop-i l = record {
  many : length l.starts.items ≡ length l.system.contexts;
  starts : (k : ℕ) → k < length l.system.contexts → get_or l.starts.items k 0 ≡ start_of (drop l.i l.system.threads) k;
}
