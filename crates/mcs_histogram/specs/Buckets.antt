-- Buckets of values: one for each value below 128, and from there on 64 for each interval from a
-- power of two to the next.
use Rattle.std.specs.Prelude.{ℕ, ◌+◌, ◌-◌, ◌*◌, ◌/◌, ◌^◌, nat_le, count_by}
use Rattle.std.specs.List.{range_with_len}

-- how many of the powers of two from 2^7 to 2^63 are at most the value
unfoldable pub doublings : ℕ → ℕ
doublings value = count_by (λ k. nat_le (2 ^ k) value) (range_with_len 7 57)

-- the width of the value's bucket: 1 below 128, doubled at each of these powers
abbrev pub width : ℕ → ℕ
width value = 2 ^ doublings value

-- the number of its bucket, from 0 in rising order: if the width was doubled, 64 more than the
-- bucket of half the value
abbrev pub bucket : ℕ → ℕ
bucket value = 64 * doublings value + value / width value

-- the maximum value of its bucket, which names the bucket
abbrev pub bucket_end : ℕ → ℕ
bucket_end value = (value / width value + 1) * width value - 1
