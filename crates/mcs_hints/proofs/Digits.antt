-- A sum of fractions, digit by digit.
use Rattle.std.proofs.Common.{◌≡◌, ℕ, zero, suc, ◌+◌, ◌-◌, ◌*◌, ◌/◌, ◌%◌, ◌^◌, ◌<◌, ◌≤◌, ◌⊎◌, inl, inr, true, false, List, [], ◌∷◌, length, map, add-one, refl, sym, ap, ◌∙◌, arith}
use Rattle.std.specs.List.{All, sum_by}
use Rattle.std.proofs.Math.Nat.{mul-le-mul_left, mul-le-mul_right, div-add-mod, pow-suc}
use Rattle.std.proofs.lemmas.Bool.{lt-ltb, le-ltb, cases_lt}
use Rattle.std.proofs.lemmas.List.{length-map}
use Rattle.std.proofs.lemmas.List.Elements.{All-head, All-tail, All-map, All-weaker}
use Rattle.std.proofs.lemmas.List.Sums.{sum_by-cons}
use Rattle.mcs_hints.specs.declared.exact.Fraction.{Fraction}
use Rattle.mcs_hints.specs.Exact.{IsFraction, product, over_product, is_above_one, wholes_of, rest_of}

-- what is left is a fraction too
rest-is : (f : Fraction) → IsFraction f → IsFraction (rest_of f)
rest-is f is =
    let some = is.some in
    let rest : f.numerator * 1048576 % f.denominator < f.denominator = omega arith in
    record { within = omega arith; some = is.some; short = is.short }

pub rests-are : (fractions : List Fraction) → All IsFraction fractions → All IsFraction (map rest_of fractions)
rests-are fractions all = All-map IsFraction rest_of fractions (All-weaker IsFraction (λ f. IsFraction (rest_of f)) rest-is fractions all)

product-rests : (fractions : List Fraction) → product (map rest_of fractions) ≡ product fractions
product-rests [] = refl
product-rests (f ∷ fractions) = ap (λ p. f.denominator * p) (product-rests fractions)

split : (n d : ℕ) → n * 1048576 ≡ d * (n * 1048576 / d) + n * 1048576 % d
split n d = sym (div-add-mod (n * 1048576) d)

-- 2^20 of the sum are all wholes, and the sum of what is left
one-digit : (b n d q r p o w o' : ℕ) → n * b ≡ d * q + r → b * o ≡ w * p + o' → b * (n * p + d * o) ≡ (q + w) * (d * p) + (r * p + d * o')
one-digit b n d q r p o w o' e f =
    let first : n * b * p ≡ (d * q + r) * p = ap (λ x. x * p) e in
    let others : d * (b * o) ≡ d * (w * p + o') = ap (λ x. d * x) f in
    omega arith

digit : (fractions : List Fraction) → 1048576 * over_product fractions ≡ sum_by wholes_of fractions * product fractions + over_product (map rest_of fractions)
digit [] = refl
digit (f ∷ fractions) =
    let d = f.denominator in
    let p = product fractions in
    let q = wholes_of f in
    let r = f.numerator * 1048576 % d in
    let all : sum_by wholes_of (f ∷ fractions) ≡ q + sum_by wholes_of fractions = sum_by-cons wholes_of f fractions in
    let same : product (map rest_of fractions) ≡ p = product-rests fractions in
    one-digit 1048576 f.numerator d q r p (over_product fractions) (sum_by wholes_of fractions) (over_product (map rest_of fractions))
    (split f.numerator d) (digit fractions)
    ∙ ap (λ w. w * (d * p) + (r * p + d * over_product (map rest_of fractions))) (sym all)
    ∙ ap (λ x. sum_by wholes_of (f ∷ fractions) * (d * p) + (r * x + d * over_product (map rest_of fractions))) (sym same)

-- each fraction is at most one
sum_le : (fractions : List Fraction) → All IsFraction fractions → over_product fractions ≤ length fractions * product fractions
sum_le [] all = omega arith
sum_le (f ∷ fractions) all =
    let first : f.numerator * product fractions ≤ f.denominator * product fractions =
    mul-le-mul_right (product fractions) (All-head IsFraction f fractions all).within
    in
    let others : f.denominator * over_product fractions ≤ f.denominator * (length fractions * product fractions) =
    mul-le-mul_left f.denominator (sum_le fractions (All-tail IsFraction f fractions all))
    in
    omega arith

product_some : (fractions : List Fraction) → All IsFraction fractions → 1 ≤ product fractions
product_some [] all = omega arith
product_some (f ∷ fractions) all =
    let some : 1 * product fractions ≤ f.denominator * product fractions = mul-le-mul_right (product fractions) (All-head IsFraction f fractions all).some in
    omega (arith, product_some fractions (All-tail IsFraction f fractions all))

power_some : (k : ℕ) → 0 < 1048576 ^ k
power_some zero = omega arith
power_some (suc k) = let more = pow-suc 1048576 k in omega (arith, power_some k)

-- two digits for each denominator
two-digits : (n : ℕ) → 1048576 ^ (2 * suc n + 1) ≡ 1048576 ^ (2 * n + 1) * 1048576 * 1048576
two-digits n =
    let count : 2 * suc n + 1 ≡ suc (suc (2 * n + 1)) = omega arith in
    ap (λ k. 1048576 ^ k) count ∙ pow-suc 1048576 (suc (2 * n + 1)) ∙ ap (λ x. x * 1048576) (pow-suc 1048576 (2 * n + 1))

product_le : (fractions : List Fraction) → All IsFraction fractions → product fractions * 1048576 ≤ 1048576 ^ (2 * length fractions + 1)
product_le [] all = omega arith
product_le (f ∷ fractions) all =
    let w : ℕ = 1048576 ^ (2 * length fractions + 1) in
    let first : f.denominator * (product fractions * 1048576) ≤ 1099511627776 * (product fractions * 1048576) =
    mul-le-mul_right (product fractions * 1048576) (All-head IsFraction f fractions all).short
    in
    let others : product fractions * 1048576 ≤ w = product_le fractions (All-tail IsFraction f fractions all) in
    let more : 1048576 ^ (2 * length (f ∷ fractions) + 1) ≡ w * 1048576 * 1048576 = two-digits (length fractions) in
    omega arith

-- After a number of digits: the sum that these fractions must exceed for the first ones to exceed
-- one.
pub record Digits (first now : List Fraction) (digits bar : ℕ) : Type 0 where
  pub all : All IsFraction now
  pub as_many : length now ≡ length first
  pub product_is : product now ≡ product first
  pub low : bar ≤ 4096
  pub sum : over_product first * 1048576 ^ digits + bar * product first ≡ product first * 1048576 ^ digits + over_product now

pub no_digit : (first : List Fraction) → All IsFraction first → Digits first first 0 1
no_digit first all = record { all = all; as_many = refl; product_is = refl; low = omega arith; sum = omega arith }

-- what follows for the first fractions
above : (p o w : ℕ) → 1 ≤ p → p * w + p ≤ o * w → p < o
above p o w some e = by (cases_lt p o)
  where
    by : (p < o) ⊎ (o ≤ p) → p < o
    by (inl lt) = lt
    by (inr le) = let less : o * w ≤ p * w = mul-le-mul_right w le in absurd (omega arith)

not_above : (p o w more : ℕ) → o * w ≤ p * w + more → more < w → o ≤ p
not_above p o w more e few = by (cases_lt p o)
  where
    by : (p < o) ⊎ (o ≤ p) → o ≤ p
    by (inr le) = le
    by (inl lt) =
        let next : p + 1 ≤ o = omega arith in
        let least : (p + 1) * w ≤ o * w = mul-le-mul_right w next in
        absurd (omega arith)

-- one digit more
sum-more : (b o p w bar o1 wholes o2 w' due : ℕ) → o * w + bar * p ≡ p * w + o1 → b * o1 ≡ wholes * p + o2 → w' ≡ w * b → due ≡ bar * b
    → o * w' + due * p ≡ p * w' + (wholes * p + o2)
sum-more b o p w bar o1 wholes o2 w' due e f g h =
    let scaled : (o * w + bar * p) * b ≡ (p * w + o1) * b = ap (λ x. x * b) e in
    let power : o * w' ≡ o * (w * b) = ap (λ x. o * x) g in
    let power' : p * w' ≡ p * (w * b) = ap (λ x. p * x) g in
    let bars : due * p ≡ bar * b * p = ap (λ x. x * p) h in
    omega arith

module _ (first now : List Fraction) (digits bar due wholes : ℕ) (so_far : Digits first now digits bar) (due_is : due ≡ bar * 1048576)
    (wholes_is : wholes ≡ sum_by wholes_of now) where
  abbrev rests : List Fraction
  rests = map rest_of now

  abbrev power : ℕ
  power = 1048576 ^ (digits + 1)

  power-more : power ≡ 1048576 ^ digits * 1048576
  power-more = ap (λ k. 1048576 ^ k) (add-one digits) ∙ pow-suc 1048576 digits

  more : over_product first * power + due * product first ≡ product first * power + (wholes * product first + over_product rests)
  more =
      sum-more 1048576 (over_product first) (product first) (1048576 ^ digits) bar (over_product now) wholes (over_product rests) power due so_far.sum
      (digit now ∙ ap (λ p. sum_by wholes_of now * p + over_product rests) so_far.product_is
      ∙ ap (λ w. w * product first + over_product rests) (sym wholes_is))
      power-more due_is

  -- more wholes than the bar
  pub told_above : due < wholes → true ≡ is_above_one first
  told_above h =
      let some : 1 ≤ product first = omega (arith, product_some now so_far.all, so_far.product_is) in
      let next : due + 1 ≤ wholes = omega arith in
      let less : (due + 1) * product first ≤ wholes * product first = mul-le-mul_right (product first) next in
      sym (lt-ltb (product first) (over_product first) (above (product first) (over_product first) power some (omega (arith, more))))

  -- as few wholes as the fractions that are left can't make up for
  rests_le : over_product rests ≤ length now * product first
  rests_le =
      let le : over_product rests ≤ length rests * product rests = sum_le rests (rests-are now so_far.all) in
      let same : length rests * product rests ≡ length now * product first =
      ap (λ n. n * product rests) (length-map now rest_of) ∙ ap (λ x. length now * x) (product-rests now ∙ so_far.product_is)
      in
      omega arith

  pub told_not : wholes ≤ due → length now ≤ due - wholes → false ≡ is_above_one first
  told_not h few =
      let bar : ℕ = due - wholes in
      let is : due ≡ wholes + bar = omega arith in
      let scaled : due * product first ≡ (wholes + bar) * product first = ap (λ x. x * product first) is in
      let enough : length now * product first ≤ bar * product first = mul-le-mul_right (product first) few in
      let le : over_product first * power ≤ product first * power = omega (arith, more, rests_le) in
      let powers : 0 < power = power_some (digits + 1) in
      sym (le-ltb (product first) (over_product first) (not_above (product first) (over_product first) power 0 (omega arith) powers))

  pub next_digit : wholes ≤ due → due - wholes < 4096 → Digits first rests (digits + 1) (due - wholes)
  next_digit h few =
      let bar : ℕ = due - wholes in
      let is : due ≡ wholes + bar = omega arith in
      let scaled : due * product first ≡ (wholes + bar) * product first = ap (λ x. x * product first) is in
      record {
        all = rests-are now so_far.all;
        as_many = length-map now rest_of ∙ so_far.as_many;
        product_is = product-rests now ∙ so_far.product_is;
        low = omega arith;
        sum = omega (arith, more);
      }

-- after all digits
pub all_digits : (first now : List Fraction) (digits bar : ℕ) → Digits first now digits bar → length first ≤ 4096 → digits ≡ 2 * length first + 1
    → false ≡ is_above_one first
all_digits first now digits bar so_far few all =
    let n = length now in
    let p = product first in
    let w : ℕ = 1048576 ^ digits in
    let same : n * product now ≡ n * p = ap (λ x. n * x) so_far.product_is in
    let sum : over_product now ≤ n * product now = sum_le now so_far.all in
    let le : over_product now ≤ n * p = omega arith in
    let short : product now * 1048576 ≤ 1048576 ^ (2 * n + 1) = product_le now so_far.all in
    let count : 2 * n + 1 ≡ digits = omega (arith, so_far.as_many) in
    let power : 1048576 ^ (2 * n + 1) ≡ w = ap (λ k. 1048576 ^ k) count in
    let some : 1 ≤ p = omega (arith, product_some now so_far.all, so_far.product_is) in
    let many : n * p ≤ 4096 * p = mul-le-mul_right p (omega (arith, so_far.as_many)) in
    let wide : product now * 1048576 ≡ p * 1048576 = ap (λ x. x * 1048576) so_far.product_is in
    let left : n * p < w = omega arith in
    sym (le-ltb p (over_product first) (not_above p (over_product first) w (n * p) (omega (arith, so_far.sum)) left))
