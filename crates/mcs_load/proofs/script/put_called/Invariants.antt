use Rattle.std.proofs.Common.{◌≡◌, ◌++◌, false, drop}
use Rattle.mcs_load.specs.Script.{called}
use Rattle.mcs_load.proofs.script.put_called.Given as goal

abbrev pub invariant-loop-step : goal.invariant-loop-step
invariant-loop-step l =
    l.steps.items ++ called l.badge l.passes (drop l.step-index l.of_server) ≡ l.initial.steps.items ++ called l.badge false l.of_server
