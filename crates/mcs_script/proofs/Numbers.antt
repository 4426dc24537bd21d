-- The number of a text of digits.
use Rattle.std.proofs.Common.{◌≡◌, ◌≢◌, ℕ, ◌+◌, ◌-◌, ◌*◌, ◌^◌, ◌<◌, ◌≤◌, Bool, true, false, not, ◌&&◌, cond, eqb, List, [], ◌∷◌, length, get_or, Some, None, refl, sym, ap, arith}
use Rattle.std.specs.Prelude.{fold, nat_le}
use Rattle.std.specs.Str.{all_ascii_digits}
use Rattle.std.proofs.lemmas.Bool.Decides.{nat_tests}
use Rattle.std.proofs.lemmas.Str.Parse.{IsNumeralModel, FoldsDigits, numerals_by_fold, tells_all_ascii_digits}
use Rattle.mcs_script.specs.Raw.{is_numeral, value_of, number_up_to}

read_on : ℕ → List ℕ → ℕ
read_on n digits = fold (λ value digit. 10 * value + (digit - 48)) n digits

folds : FoldsDigits read_on
unfolding read_on
folds = record { empty = λ n. refl; more = λ n c cs h. ap (λ m. fold (λ value digit. 10 * value + (digit - 48)) m cs) (by_ten n (c - 48)) }
  where
    by_ten : (n d : ℕ) → 10 * n + d ≡ n * 10 + d
    by_ten n d = omega arith

-- the model's digits and value are those of a call of `parse`
pub own : IsNumeralModel (λ digits. all_ascii_digits digits ≡ true) value_of
unfolding read_on
own = numerals_by_fold _ tells_all_ascii_digits read_on folds

-- digits, the first of them not 0
numeral : (digits : List ℕ) → get_or digits 0 0 ≢ 48 → all_ascii_digits digits ≡ true → 0 < length digits → is_numeral digits ≡ true
numeral [] n e p = absurd (omega arith)
numeral (c ∷ cs) n e p = rw (differ c n, e) refl
  where
    differ : (a : ℕ) → a ≢ 48 → eqb a 48 ≡ false
    differ a n = grind (arith, nat_tests)

pub number-in_range : (most n : ℕ) (digits : List ℕ) → get_or digits 0 0 ≢ 48 → all_ascii_digits digits ≡ true → 0 < length digits → n ≡ value_of digits → 1 ≤ n → n ≤ most →
    Some n ≡ number_up_to most digits
number-in_range most n digits f e p v low high = rw (numeral digits f e p, sym v, test 1 n low, test n most high) refl
  where
    test : (a b : ℕ) → a ≤ b → nat_le a b ≡ true
    test a b q = grind (arith, nat_tests)

pub number-out_of_range : (most n : ℕ) (digits : List ℕ) → n ≡ value_of digits → (1 ≤ n → most < n) → None ≡ number_up_to most digits
number-out_of_range most n digits v out = by (is_numeral digits)
  where
    outside : (a b : ℕ) → (1 ≤ a → b < a) → (nat_le 1 a && nat_le a b) ≡ false
    outside a b o = grind (arith, nat_tests)

    by : (b : Bool) → None ≡ cond (b && (nat_le 1 (value_of digits) && nat_le (value_of digits) most)) (Some (value_of digits)) None
    by true = rw (sym v, outside n most out) refl
    by false = refl

-- the case in which `parse` refuses
pub number-refused : (most : ℕ) (digits : List ℕ) → most < 2 ^ 64 → ¬ ((all_ascii_digits digits ≡ true) × (0 < length digits) × (value_of digits < 2 ^ 64)) → None ≡ number_up_to most digits
number-refused most [] m h = refl
number-refused most (c ∷ cs) m h = by (not (eqb c 48)) (all_ascii_digits (c ∷ cs)) (nat_le 1 (value_of (c ∷ cs))) (nat_le (value_of (c ∷ cs)) most) refl refl
  where
    at_most : (a b : ℕ) → nat_le a b ≡ true → a ≤ b
    at_most a b e = grind (arith, nat_tests)

    by : (a b d e : Bool) → all_ascii_digits (c ∷ cs) ≡ b → nat_le (value_of (c ∷ cs)) most ≡ e → None ≡ cond ((a && b) && (d && e)) (Some (value_of (c ∷ cs))) None
    by false b d e f g = refl
    by true false d e f g = refl
    by true true false e f g = refl
    by true true true false f g = refl
    by true true true true f g =
        let small = at_most (value_of (c ∷ cs)) most g in
        absurd (h (f, omega arith, omega (arith, small, m)))
