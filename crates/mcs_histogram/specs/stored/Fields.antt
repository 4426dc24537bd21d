-- The invariant of the fields of every histogram.
use Rattle.std.specs.Prelude.{ℕ, ◌≡◌, ◌+◌, ◌^◌, ◌<◌, List, length, sum}
use Rattle.mcs_histogram.specs.Buckets.{bucket}

pub record AreFields (limit count : ℕ) (counts : List ℕ) : Type 0 where
  pub in_range : limit < 2 ^ 64
  pub room : length counts ≡ bucket limit + 1
  pub summed : sum counts ≡ count
