use Rattle.std.proofs.Common.{◌+◌, ◌-◌}
use Rattle.mcs_ever_told.specs.Progress.{IsOfSame}
use Rattle.mcs_ever_told.proofs.outlook.Outlook.finish.Given as goal

abbrev pub invariant-steps : goal.invariant-steps
invariant-steps l = IsOfSame l.fn.self l.self

abbrev pub decreases-steps : goal.decreases-steps
decreases-steps l = l.self.horizon + 1 - l.self.clock
