use Rattle.mcs_ever_chain.specs.stored.Looks.{AreLooks}
use Rattle.mcs_ever_chain.proofs.tell.looks_of.Given as goal

abbrev pub invariant-loop-chain : goal.invariant-loop-chain
invariant-loop-chain l = AreLooks l.system 0 0 l.looks.items
