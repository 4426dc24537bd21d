use Rattle.std.proofs.Common.{◌≡◌, ◌≤◌, length, map, vec_capacity}
use Rattle.std.specs.Arc.{arc_value}
use Rattle.std.specs.List.{range_with_len}
use Rattle.mcs_report.specs.CoreTally.{opened_core_tally}
use Rattle.mcs_report.proofs.core_tally.CoreTally.of_all_cores.Given as goal

abbrev pub invariant-loop-core : goal.invariant-loop-core
invariant-loop-core l =
    (l.tallies.items ≡ map (λ c. opened_core_tally (arc_value l.places) c l.horizon) (range_with_len 0 l.core))
    × (length l.tallies.items ≡ l.core)
    × (l.cores ≤ vec_capacity l.tallies)
