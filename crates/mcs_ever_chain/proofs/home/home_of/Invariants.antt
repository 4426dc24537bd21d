use Rattle.std.specs.Prelude.{IfSome}
use Rattle.mcs_ever_chain.specs.stored.Looks.{IsHome}
use Rattle.mcs_ever_chain.proofs.home.home_of.Given as goal

abbrev pub invariant-loop-one : goal.invariant-loop-one
invariant-loop-one l = IfSome l.best (IsHome l.parts l.chain)
