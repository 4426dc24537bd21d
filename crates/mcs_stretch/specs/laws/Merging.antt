-- The rows that each core makes alone, merged.
use Rattle.std.specs.Prelude.{◌≡◌, ℕ, suc, ◌<◌, ◌≤◌, List, map, slice_index}
use Rattle.std.specs.List.{range_with_len}
use Rattle.mcs_ticks.specs.declared.row.Row.{Row}
use Rattle.mcs_merge.specs.Merge.{merged, merged_before}
use Rattle.mcs_system.specs.System.{System}
use Rattle.mcs_core.specs.Clock.{clock, schedule}
use Rattle.mcs_stretch.specs.Stretch.{rows_between}

module _ (system : System) where
  -- for each core the clock's rows of that core from time 0 to the horizon
  abbrev pub rows_of_cores : ℕ → List (List Row)
  rows_of_cores horizon = map (λ c. rows_between system c 0 (suc horizon)) (range_with_len 0 system.cores)

  -- merged they are the schedule
  abbrev pub RowsMerge : Type 0
  RowsMerge = (horizon : ℕ) → merged (rows_of_cores horizon) ≡ schedule system horizon

  -- for each core the clock's rows of that core from time 0 to before its own clock
  abbrev pub rows_until : List ℕ → List (List Row)
  rows_until clocks = map (λ c. rows_between system c 0 (slice_index clocks c)) (range_with_len 0 system.cores)

  -- merged up to a moment that no clock is before, they are the clock's rows before it
  abbrev pub RowsMergeSoFar : Type 0
  RowsMergeSoFar =
      (clocks : List ℕ) (t : ℕ) → ((c : ℕ) → c < system.cores → t ≤ slice_index clocks c) →
      merged_before t (rows_until clocks) ≡ (clock system t).rows
