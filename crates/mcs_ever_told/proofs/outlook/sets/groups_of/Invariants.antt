use Rattle.std.proofs.Common.{◌≡◌, map}
use Rattle.std.specs.List.{filter, range_with_len}
use Rattle.mcs_ever_told.specs.Sets.{is_first}
use Rattle.mcs_ever_told.specs.stored.Groups.{group_of}
use Rattle.mcs_ever_told.proofs.outlook.sets.groups_of.Given as goal

abbrev pub invariant-loop-core : goal.invariant-loop-core
invariant-loop-core l = l.groups.items ≡ map (group_of l.sets) (filter (is_first l.sets) (range_with_len 0 l.core))
