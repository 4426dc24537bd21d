use Rattle.std.proofs.Common.{◌≡◌, take}
use Rattle.std.specs.Prelude.{filter, map}
use Rattle.mcs_core.specs.Alarms.{alarm_of, is_at_home}
use Rattle.mcs_core.proofs.alarms.alarms_of.Given as goal

abbrev pub invariant-loop-beat : goal.invariant-loop-beat
invariant-loop-beat l = l.alarms.items ≡ map (alarm_of l.system) (filter (is_at_home l.system l.core) (take l.beat-index l.system.beats))
