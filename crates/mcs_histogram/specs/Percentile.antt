-- Percentiles of a list of values, by nearest rank.
use Rattle.std.specs.Prelude.{ℕ, ◌*◌, Bool, nat_le, List, length, count_by, filter, Option, min}
use Rattle.std.specs.List.{reduce}

-- at least `percent` percent of the values are at most this one
abbrev pub covers : ℕ → List ℕ → ℕ → Bool
covers percent values limit = nat_le (percent * length values) (100 * count_by (λ value. nat_le value limit) values)

-- the minimum of the values that at least `percent` percent of them do not exceed
abbrev pub percentile : ℕ → List ℕ → Option ℕ
percentile percent values = reduce min (filter (covers percent values) values)
