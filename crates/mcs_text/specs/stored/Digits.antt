-- How the digits of a time are stored.
use Rattle.std.specs.Prelude.{ℕ, ◌≡◌, ◌≤◌, ◌<◌, ◌*◌, ◌/◌, ◌^◌, List, slice_range}
use Rattle.std.specs.Fmt.{decimal}

-- the digits of a time lie in a block from `start` to before 16
pub record AreDigits (moment hundred : ℕ) (block : List ℕ) (start : ℕ) : Type 0 where
  pub within : start ≤ 16
  pub digits_are : slice_range block start 16 ≡ decimal moment
  -- `hundred` is the time with its last two digits 0, or above all times if it has at most two
  -- digits
  pub hundred_is : 100 ≤ moment → hundred ≡ moment / 100 * 100
  pub none_is : moment < 100 → hundred ≡ 2 ^ 43
