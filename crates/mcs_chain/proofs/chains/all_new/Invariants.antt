use Rattle.std.proofs.Common.{◌≡◌, take, [], map}
use Rattle.mcs_chain.specs.Watch.{one_of}
use Rattle.mcs_chain.proofs.chains.all_new.Given as goal

abbrev pub invariant-loop-number : goal.invariant-loop-number
invariant-loop-number l =
    l.each.items ≡ map (λ chain. one_of l.parts chain []) (take l._number l.parts.chains)
