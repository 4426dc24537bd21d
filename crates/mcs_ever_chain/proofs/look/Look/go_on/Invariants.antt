use Rattle.mcs_ever_chain.specs.stored.Looks.{IsLook}
use Rattle.mcs_ever_chain.proofs.look.Look.go_on.Given as goal

abbrev pub invariant-loop-look : goal.invariant-loop-look
invariant-loop-look l = IsLook l.system l.run.lockstep.clock l.run.lockstep.clock l.self
