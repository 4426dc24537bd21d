-- Exact sums of fractions.
use Rattle.std.specs.Prelude.{ℕ, Bool, ◌+◌, ◌*◌, ◌/◌, ◌%◌, ◌^◌, ◌≤◌, nat_lt, List, [], ◌∷◌}
use Rattle.mcs_hints.specs.declared.exact.Fraction.{Fraction}

-- the product of all denominators
abbrev pub product : List Fraction → ℕ
product [] = 1
product (f ∷ fractions) = f.denominator * product fractions

-- the numerator of the sum over this product
abbrev pub over_product : List Fraction → ℕ
over_product [] = 0
over_product (f ∷ fractions) = f.numerator * product fractions + f.denominator * over_product fractions

-- the sum is above one
abbrev pub is_above_one : List Fraction → Bool
is_above_one fractions = nat_lt (product fractions) (over_product fractions)

-- at most one, with a denominator in range
pub record IsFraction (f : Fraction) : Type 0 where
  pub within : f.numerator ≤ f.denominator
  pub some : 1 ≤ f.denominator
  pub short : f.denominator ≤ 2 ^ 40

-- the whole part and the remainder of 2^20 times the fraction
abbrev pub wholes_of : Fraction → ℕ
wholes_of f = f.numerator * 1048576 / f.denominator

abbrev pub rest_of : Fraction → Fraction
rest_of f = record { numerator = f.numerator * 1048576 % f.denominator; denominator = f.denominator }
