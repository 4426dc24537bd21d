use Rattle.std.proofs.Common.{◌-◌}
use Rattle.mcs_ever_chain.specs.stored.Looks.{AreLooksTo, AreResults}
use Rattle.mcs_ever_chain.proofs.tell.look_at_all.Given as goal

abbrev pub invariant-loop-i : goal.invariant-loop-i
invariant-loop-i l = record {
  looks : AreLooksTo l.system l.from (l.from - 1) l.run.lockstep.clock l.run.lockstep.clock l.looks l.i;
  told : AreResults l.system l.run.lockstep.horizon l.told;
}
