use Rattle.std.proofs.Common.{◌≡◌, drop}
use Rattle.mcs_chain.specs.stored.Still.{have_late}
use Rattle.mcs_chain.proofs.chains.have_late.Given as goal

-- what is left to look at says what all did
abbrev pub invariant-loop-one : goal.invariant-loop-one
invariant-loop-one l = have_late l.each ≡ have_late (drop l.one-index l.each)
