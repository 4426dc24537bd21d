-- The numbers of buckets rise with their values, and each bucket is narrow and ends with its end.
use Rattle.std.specs.Prelude.{ℕ, ◌≡◌, ◌*◌, ◌≤◌}
use Rattle.mcs_histogram.specs.Buckets.{bucket, bucket_end}

-- the end of a value's bucket is at least the value, and above it by at most 1/64 of it
abbrev pub EndsAreNear : Type 0
EndsAreNear = (value : ℕ) → (value ≤ bucket_end value) × (64 * bucket_end value ≤ 65 * value)

-- the end of a value's bucket lies in it, and no other value of it is greater
abbrev pub EndsAreGreatest : Type 0
EndsAreGreatest = (value other : ℕ) → (bucket (bucket_end value) ≡ bucket value) × (bucket other ≡ bucket value → other ≤ bucket_end value)

-- a greater value lies in the same or a later bucket
abbrev pub BucketsRise : Type 0
BucketsRise = (less more : ℕ) → less ≤ more → bucket less ≤ bucket more
