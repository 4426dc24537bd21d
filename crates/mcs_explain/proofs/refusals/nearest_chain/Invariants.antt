use Rattle.std.proofs.Common.{◌≡◌, drop, option_map}
use Rattle.mcs_explain.specs.Asked.{nearest_chain}
use Rattle.mcs_explain.proofs.refusals.nearest_chain.Given as goal

abbrev pub invariant-loop-part : goal.invariant-loop-part
invariant-loop-part l =
    nearest_chain l.name (option_map (λ n. n.now) l.near) (drop l.part-index l.parts.chains) ≡ nearest_chain l.name (option_map (λ n. n.now) l.initial.near) l.parts.chains
