use Rattle.mcs_window.specs.stored.Cores.{AreSkipped}
use Rattle.mcs_window.proofs.skip.skip_all.Given as goal

abbrev pub invariant-loop-core : goal.invariant-loop-core
invariant-loop-core l = AreSkipped l.system l.initial.clocks l.initial.states l.moment l.core l.clocks l.states
