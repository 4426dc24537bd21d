-- Rows in order, with a copy of the moments of the next few.
use Rattle.std.specs.Prelude.{◌≡◌, ℕ, ◌+◌, ◌<◌, List, slice_get, slice_index, IfSome}
use Rattle.mcs_ticks.specs.declared.row.Row.{Row}

pub record Listed : Type 0 where
  pub items : List Row

-- these are the moments of the first rows, from index `at` to the last of the eight, as far as
-- there are rows
pub record StandBeside (rows : List Row) (moments : List ℕ) (at : ℕ) : Type 0 where
  pub within : at < 8
  pub each : (k : ℕ) → at + k < 8 → IfSome (slice_get rows k) (λ (row : Row). slice_index moments (at + k) ≡ row.moment)
