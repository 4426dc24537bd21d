-- Percentiles by the order of values, and the distance of reported percentiles from them.
use Rattle.std.specs.Prelude.{ℕ, ◌≡◌, ◌-◌, ◌*◌, ◌^◌, ◌<◌, ◌≤◌, List, length, slice_get, All, IsPermutation, Some}
use Rattle.std.specs.Int.{div_ceil}
use Rattle.std.specs.List.Sorted.{IsNonDecreasing}
use Rattle.mcs_histogram.specs.Percentile.{percentile}
use Rattle.mcs_histogram.specs.Histogram.{counted, greatest_of, told_percentile}

-- a reported percentile is at least the percentile, above it by at most 1/64 of it, and at most the
-- maximum value
abbrev pub PercentilesAreNear : Type 0
PercentilesAreNear =
    (percent : ℕ) (values : List ℕ) (value : ℕ) → percentile percent values ≡ Some value
    → (told : ℕ) × (told_percentile percent values ≡ Some told) × (value ≤ told) × (64 * told ≤ 65 * value) × (told ≤ greatest_of values)

-- the 100th percentile, the maximum value, is exact
abbrev pub HundredthIsExact : Type 0
HundredthIsExact = (values : List ℕ) → told_percentile 100 values ≡ percentile 100 values

-- in rising order a percentile is the value in place ⌈percent · n / 100⌉, counted from 1
abbrev pub PercentilesAreRanks : Type 0
PercentilesAreRanks =
    (percent : ℕ) (values rising : List ℕ) → 0 < percent → percent ≤ 100 → IsPermutation values rising → IsNonDecreasing rising
    → percentile percent values ≡ slice_get rising (div_ceil (percent * length values) 100 - 1)

-- values up to the limit count unchanged, if there are fewer than 2^64 of them
abbrev pub AllAreCounted : Type 0
AllAreCounted = (limit : ℕ) (values : List ℕ) → All (λ value. value ≤ limit) values → length values < 2 ^ 64 → counted limit values ≡ values
