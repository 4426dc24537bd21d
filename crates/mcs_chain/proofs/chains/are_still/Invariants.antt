use Rattle.std.proofs.Common.{◌≡◌, drop}
use Rattle.mcs_chain.specs.stored.Still.{are_still}
use Rattle.mcs_chain.proofs.chains.are_still.Given as goal

-- what is left to look at says what all did
abbrev pub invariant-loop-one : goal.invariant-loop-one
invariant-loop-one l = are_still l.each ≡ are_still (drop l.one-index l.each)
