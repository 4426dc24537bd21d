use Rattle.std.proofs.Common.{◌≡◌, ◌+◌, ◌-◌, ◌*◌, ◌<◌, ◌≤◌, length}
use Rattle.mcs_core.specs.stored.Places.{first_leaf}
use Rattle.mcs_core.proofs.alarms.size_for.Given as goal

abbrev pub invariant-loop-leaves : goal.invariant-loop-leaves
invariant-loop-leaves l = (l.leaves ≡ first_leaf l.levels 1) × (l.levels < l.leaves) × (l.leaves ≤ 2 * length l.alarms + 1)

abbrev pub decreases-loop-leaves : goal.decreases-loop-leaves
decreases-loop-leaves l = length l.alarms - l.leaves
