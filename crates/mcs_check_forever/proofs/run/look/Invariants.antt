use Rattle.std.proofs.Common.{◌≡◌, ◌+◌, ◌-◌}
use Rattle.std.specs.Arc.{arc_value}
use Rattle.mcs_check_forever.proofs.run.look.Given as goal

abbrev pub invariant-steps : goal.invariant-steps
invariant-steps g l =
    (l.outlook.system ≡ arc_value l.fn.system) × (l.outlook.allowed ≡ l.allowed) × (l.outlook.horizon ≡ l.fn.horizon)

abbrev pub decreases-steps : goal.decreases-steps
decreases-steps g l = l.outlook.horizon + 1 - l.outlook.clock
