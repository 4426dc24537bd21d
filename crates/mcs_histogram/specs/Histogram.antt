-- The state of a histogram, as a function of the recorded values (latest first), and the
-- percentiles that it returns.
use Rattle.std.specs.Prelude.{ℕ, ◌+◌, ◌-◌, ◌^◌, ◌==◌, min, max, List, length, map, drop, count_by, fold, Option}
use Rattle.std.specs.Option.{option_map}
use Rattle.std.specs.List.{range_with_len}
use Rattle.mcs_histogram.specs.Buckets.{bucket, bucket_end}
use Rattle.mcs_histogram.specs.Percentile.{percentile}

-- the counted values: a value above the limit counts as the limit, and only the first 2^64 - 1
-- values count
abbrev pub counted : ℕ → List ℕ → List ℕ
counted limit values = map (λ value. min value limit) (drop (length values - (2 ^ 64 - 1)) values)

-- the maximum of the values, 0 for an empty list
abbrev pub greatest_of : List ℕ → ℕ
greatest_of values = fold max 0 values

-- how many of the values lie in the bucket with this number
abbrev pub count_in : List ℕ → ℕ → ℕ
count_in values number = count_by (λ value. bucket value == number) values

-- the numbers of values in each bucket up to that of the limit, in rising order
abbrev pub counts_of : ℕ → List ℕ → List ℕ
counts_of limit values = map (count_in values) (range_with_len 0 (bucket limit + 1))

-- the number of counted values, their maximum, and the number of them in each bucket
pub record Histogram : Type 0 where
  pub limit : ℕ
  pub count : ℕ
  pub greatest : ℕ
  pub counts : List ℕ

-- the histogram of these values, with buckets for values up to the limit
abbrev pub histogram_of : ℕ → List ℕ → Histogram
histogram_of limit values =
    record { limit = limit; count = length (counted limit values); greatest = greatest_of (counted limit values); counts = counts_of limit (counted limit values) }

-- a reported percentile: the maximum value of its bucket, at most the maximum of all values
abbrev pub told_percentile : ℕ → List ℕ → Option ℕ
told_percentile percent values = option_map (λ value. min (bucket_end value) (greatest_of values)) (percentile percent values)
