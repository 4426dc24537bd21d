use Rattle.std.proofs.Common.{◌≡◌, ◌<◌, ◌≤◌, ℕ, [], length, drop, All, vec_capacity}
use Rattle.toml.specs.View.{items_view}
use Rattle.mcs_load.specs.Checks.{first_failed}
use Rattle.mcs_load.specs.Dates.{least_after, next_offset}
use Rattle.mcs_load.specs.Words.{each}
use Rattle.mcs_load.proofs.source.read_offsets.Given as goal

abbrev pub invariant-loop-k : goal.invariant-loop-k
invariant-loop-k l =
    let rest = each (next_offset l.period l.at) l.offsets.items (items_view (drop l.k l.values)) in
    let all = each (next_offset l.period l.at) [] (items_view l.values) in
    record {
      tests : first_failed rest.tests ≡ first_failed all.tests;
      value : rest.value ≡ all.value;
      count : length l.offsets.items ≡ l.k;
      room : length l.values ≤ vec_capacity l.offsets;
      least : l.least ≡ least_after l.offsets.items;
      within : All (λ n. n < l.period) l.offsets.items;
    }
