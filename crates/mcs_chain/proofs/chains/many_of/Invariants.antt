use Rattle.std.proofs.Common.{◌≡◌, take}
use Rattle.mcs_chain.specs.Watch.{all_slow_many}
use Rattle.mcs_chain.proofs.chains.many_of.Given as goal

abbrev pub invariant-loop-one : goal.invariant-loop-one
invariant-loop-one l =
    l.many ≡ all_slow_many (take l.one-index l.each)
