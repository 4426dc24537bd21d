use Rattle.std.proofs.Common.{◌≡◌, take, [], map}
use Rattle.mcs_chain.proofs.tallies.Tallies.new.Given as goal
use Rattle.mcs_chain.specs.Figures.{tally_of}

abbrev pub invariant-loop-number : goal.invariant-loop-number
invariant-loop-number l =
    l.each.items ≡ map (λ chain. tally_of l.horizon l.system chain []) (take l._number l.system.chains)
