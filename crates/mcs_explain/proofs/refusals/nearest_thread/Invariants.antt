use Rattle.std.proofs.Common.{◌≡◌, None, drop, option_map}
use Rattle.mcs_explain.specs.Asked.{nearest_thread}
use Rattle.mcs_explain.proofs.refusals.nearest_thread.Given as goal

abbrev pub invariant-loop-part : goal.invariant-loop-part
invariant-loop-part l = nearest_thread l.name (option_map (λ n. n.now) l.near) (drop l.part-index l.parts.threads) ≡ nearest_thread l.name None l.parts.threads
