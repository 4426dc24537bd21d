use Rattle.std.proofs.Common.{◌≡◌, ℕ, ◌<◌, length, get_or}
use Rattle.mcs_ever_chain.specs.declared.told.ChainTold.{ChainTold}
use Rattle.mcs_ever_chain.specs.stored.Looks.{IsResult}
use Rattle.mcs_ever_chain.proofs.tell.all_told.Given as goal

abbrev pub invariant-loop-i : goal.invariant-loop-i
invariant-loop-i l = record {
  many : length l.all.items ≡ l.i;
  each : (e : ChainTold) (k : ℕ) → k < l.i → IsResult l.system l.run.lockstep.horizon k (get_or l.all.items k e);
}
