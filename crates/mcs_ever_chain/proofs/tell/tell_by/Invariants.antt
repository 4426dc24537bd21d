use Rattle.std.proofs.Common.{◌≡◌, ◌+◌, ◌-◌}
use Rattle.mcs_ever_chain.specs.stored.Looks.{AreLooks, AreResults}
use Rattle.mcs_ever_chain.specs.stored.Runs.{IsRun}
use Rattle.mcs_ever_chain.proofs.tell.tell_by.Given as goal

abbrev pub invariant-loop-results : goal.invariant-loop-results
invariant-loop-results l = record {
  run : IsRun l.system l.run;
  horizon : l.run.lockstep.horizon ≡ l.horizon;
  looks : AreLooks l.system l.run.lockstep.clock (l.run.lockstep.clock - 1) l.looks.items;
  told : AreResults l.system l.horizon l.results.items;
}

abbrev pub decreases-loop-results : goal.decreases-loop-results
decreases-loop-results l = l.horizon + 1 - l.run.lockstep.clock
