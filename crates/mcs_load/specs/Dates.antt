-- Sources of interrupts, and their dates.
use Rattle.std.specs.Prelude.{ℕ, suc, pos, ◌+◌, ◌-◌, ◌/◌, ◌^◌, ◌&&◌, ◌==◌, nat_le, if◌then◌else◌, List, [], ◌∷◌, ◌++◌, length, fold, Option, Some, None, is_some, option_and_then}
use Rattle.std.specs.List.{sum_by}
use Rattle.toml.specs.Data.{Data, integer, Items, no_items, item, Members, get_member, as_integer, as_array}
use Rattle.mcs_system.specs.declared.part.Beat.{Beat}
use Rattle.mcs_system.specs.declared.part.SourcePart.{SourcePart}
use Rattle.mcs_load.specs.declared.at.At.{At}
use Rattle.mcs_load.specs.declared.fault.FaultKind.TheVariants.{WrongKind, OutOfRange, TooMany}
use Rattle.mcs_load.specs.declared.source.Dates.{Dates}
use Rattle.mcs_load.specs.declared.source.Pace.{Pace}
use Rattle.mcs_load.specs.declared.source.Source.{Source}
use Rattle.mcs_load.specs.declared.spot.Key.TheVariants as key
use Rattle.mcs_load.specs.Keys.{key_name}
use Rattle.mcs_load.specs.Checks.{Checked, ◌>>=◌, reads}
use Rattle.mcs_load.specs.Words.{must_at, must_in, if_there, is_in_range, number_or, whole_number, number_with_default, item_count, each}

-- the minimum of the next number: one more than the last of these, or 0
abbrev pub least_after : List ℕ → ℕ
least_after numbers = fold (λ least number. number + 1) 0 numbers

-- the n-th number of `at`, from 1: at least this, and below the period
unfoldable pub offset : ℕ → ℕ → ℕ → At → Data → Checked ℕ
offset number least period at d = do
  _ ← must_in at key.At number WrongKind (is_some (as_integer d))
  _ ← must_in at key.At number OutOfRange (if_there (is_in_range least (period - 1)) (as_integer d))
  reads (number_or 0 (as_integer d))

-- a further number of `at`
abbrev pub next_offset : ℕ → At → List ℕ → Data → Checked ℕ
next_offset period at earlier d = offset (suc (length earlier)) (least_after earlier) period at d

-- the numbers of an absent `at`
abbrev pub zero_alone : Items
zero_alone = item (integer (pos 0)) no_items

abbrev pub items_or_zero : Option Items → Items
items_or_zero None = zero_alone
items_or_zero (Some items) = items

-- at most 1,024, and at most 4,096 with those of the earlier sources
unfoldable pub few_offsets : At → ℕ → ℕ → Checked (Unit {0})
few_offsets at taken count = must_at at key.At TooMany (nat_le count 1024 && nat_le (taken + count) 4096)

-- the values of `at`
unfoldable pub at_values : At → Members → Checked Items
at_values at row =
    let found = get_member (key_name key.At) row in
    let values = items_or_zero (option_and_then as_array found) in do
      _ ← must_at at key.At WrongKind (if_there (λ d. is_some (as_array d)) found)
      _ ← must_at at key.At OutOfRange (nat_le 1 (item_count values))
      reads values

-- the numbers of these values, each above the one before
unfoldable pub read_values : ℕ → ℕ → At → Items → Checked (List ℕ)
read_values taken period at values = do
  _ ← few_offsets at taken (item_count values)
  each (next_offset period at) [] values

-- the numbers of `at`
unfoldable pub offsets : ℕ → ℕ → At → Members → Checked (List ℕ)
offsets taken period at row = do
  values ← at_values at row
  read_values taken period at values

-- of `count` dates, the number that entry k (from 0) of `many` has. A count of 0 means no end.
abbrev pub share : ℕ → ℕ → ℕ → Option ℕ
share count many k =
    if count == 0 then Some 0
    else if nat_le count k then None
    else Some ((count - k - 1) / many + 1)

-- the dates of an entry of `at`, if it has any
abbrev pub beat_of : Pace → ℕ → Option ℕ → List Beat
beat_of pace offset None = []
beat_of pace offset (Some count) =
    record { source = pace.source; first = pace.start + offset; period = pace.period; count = count } ∷ []

module _ (pace : Pace) (many : ℕ) where
  -- the dates of the entries of `at` from the k-th
  abbrev pub beats_from : ℕ → List ℕ → List Beat
  beats_from k [] = []
  beats_from k (offset ∷ offsets) = beat_of pace offset (share pace.count many k) ++ beats_from (suc k) offsets

-- the dates of a source with these numbers of `at`
abbrev pub dates_of : Pace → List ℕ → Dates
dates_of pace offsets = record { many = length offsets; beats = beats_from pace (length offsets) 0 offsets }

-- the dates of the source with this number, given how many numbers earlier sources have in `at`
unfoldable pub read_dates : ℕ → ℕ → At → Members → Checked Dates
read_dates number taken at row = do
  period ← whole_number at key.Period 1 (2 ^ 40) row
  start ← number_with_default at key.Start 0 (2 ^ 40) 0 row
  count ← number_with_default at key.Count 0 (2 ^ 40) 0 row
  offsets ← offsets taken period at row
  reads (dates_of (record { source = number; start = start; period = period; count = count }) offsets)

-- the number of entries of `at` of these sources
abbrev pub taken_by : List Source → ℕ
taken_by sources = sum_by (λ source. source.dates.many) sources

-- the part of a source that a system keeps besides its dates
abbrev pub part_of_source : Source → SourcePart
part_of_source source = record { name = source.name; note = source.note; badge = source.badge }
