-- Doublings of the width of buckets, and how buckets lie.
use Rattle.std.proofs.Common.{◌≡◌, ℕ, zero, suc, ◌+◌, ◌-◌, ◌*◌, ◌/◌, ◌%◌, ◌^◌, ◌<◌, ◌≤◌, max, ◌⊎◌, inl, inr, Bool, true, false, cond, leb, refl, ap, subst, ◌∙◌, arith}
use Rattle.std.specs.List.{range_with_len, count_by}
use Rattle.std.proofs.Math.Nat.{pow-le-pow_right, le-div_iff_mul-le, div-lt_iff_lt-mul, div-eq_of_lt-le, mul-le-mul_right}
use Rattle.std.proofs.lemmas.Nat.{pow_pos, pow-add, one_shl}
use Rattle.std.proofs.lemmas.Bool.{cases_lt, cases_order, le-leb, lt-leb}
use Rattle.std.proofs.lemmas.List.Sums.{sum_by-cons}
use Rattle.mcs_histogram.specs.Buckets.{doublings, width, bucket, bucket_end}

-- how many of n powers of two, from 2^a on, are at most v
abbrev powers : ℕ → ℕ → ℕ → ℕ
powers v a n = count_by (λ k. leb (2 ^ k) v) (range_with_len a n)

record ArePowers (v a n c : ℕ) : Type 0 where
  within : c ≤ n
  low : (k : ℕ) → c ≡ suc k → 2 ^ (a + k) ≤ v
  high : c < n → v < 2 ^ (a + c)

powers-more : (v a n : ℕ) (b : Bool) → leb (2 ^ a) v ≡ b → powers v a (suc n) ≡ cond b 1 0 + powers v (a + 1) n
powers-more v a n b e =
    sum_by-cons (λ k. cond (leb (2 ^ k) v) 1 0) a (range_with_len (a + 1) n) ∙ ap (λ (b : Bool). cond b 1 0 + powers v (a + 1) n) e

one_more : (v a n c : ℕ) → 2 ^ a ≤ v → ArePowers v (a + 1) n c → ArePowers v a (suc n) (suc c)
one_more v a n c here rest = record {
  within = omega arith;
  low = λ k e. lows k (omega arith);
  high = λ h. subst (λ x. v < 2 ^ x) (omega arith) (rest.high (omega arith));
}
  where
    lows : (k : ℕ) → c ≡ k → 2 ^ (a + k) ≤ v
    lows zero e = subst (λ x. 2 ^ x ≤ v) (omega arith) here
    lows (suc j) e = subst (λ x. 2 ^ x ≤ v) (omega arith) (rest.low j e)

none_more : (v a n c : ℕ) → v < 2 ^ a → ArePowers v (a + 1) n c → ArePowers v a (suc n) c
none_more v a n zero here rest = record {
  within = omega arith;
  low = λ k e. absurd (cc);
  high = λ h. subst (λ x. v < 2 ^ x) (omega arith) here;
}
none_more v a n (suc c) here rest =
    let grows : 2 ^ a ≤ 2 ^ (a + 1 + c) = pow-le-pow_right (omega arith) (omega arith) in
    let low = rest.low c refl in
    absurd (omega arith)

are_powers : (n v a : ℕ) → ArePowers v a n (powers v a n)
are_powers zero v a = record { within = omega arith; low = λ k e. absurd (cc); high = λ h. absurd (omega arith) }
are_powers (suc n) v a = by (cases_lt v (2 ^ a)) (are_powers n v (a + 1))
  where
    by : (v < 2 ^ a) ⊎ (2 ^ a ≤ v) → ArePowers v (a + 1) n (powers v (a + 1) n) → ArePowers v a (suc n) (powers v a (suc n))
    by (inl h) rest = subst (ArePowers v a (suc n)) (omega (arith, powers-more v a n false (lt-leb (2 ^ a) v h))) (none_more v a n (powers v (a + 1) n) h rest)
    by (inr h) rest = subst (ArePowers v a (suc n)) (omega (arith, powers-more v a n true (le-leb (2 ^ a) v h))) (one_more v a n (powers v (a + 1) n) h rest)

-- d is how often the width was doubled up to v
pub record IsDoubled (v d : ℕ) : Type 0 where
  pub within : d ≤ 57
  pub low : 0 < d → 64 * 2 ^ d ≤ v
  pub high : d < 57 → v < 128 * 2 ^ d

pub is_doubled : (v : ℕ) → IsDoubled v (doublings v)
unfolding doublings
is_doubled v = by (powers v 7 57) (are_powers 57 v 7)
  where
    by : (d : ℕ) → ArePowers v 7 57 d → IsDoubled v d
    by zero h = record { within = omega arith; low = λ p. absurd (omega arith); high = h.high }
    by (suc k) h = record {
      within = h.within;
      low = λ p. omega (arith, pow-add 2 7 k, pow-add 2 1 k, h.low k refl, ap (λ x. 2 ^ x) (let e : suc k ≡ 1 + k = omega arith in e));
      high = λ p. omega (arith, pow-add 2 7 (suc k), h.high p);
    }

pub doublings_is : (v d : ℕ) → IsDoubled v d → doublings v ≡ d
doublings_is v d h = by (cases_order (doublings v) d)
  where
    is : IsDoubled v (doublings v)
    is = is_doubled v

    less : (a b : ℕ) → IsDoubled v a → IsDoubled v b → a < b → ⊥
    less a b p q h =
        let grows : 2 ^ (a + 1) ≤ 2 ^ b = pow-le-pow_right (omega arith) (omega arith) in
        let twice : 2 ^ (a + 1) ≡ 2 ^ a * 2 ^ 1 = pow-add 2 a 1 in
        let low = q.low (omega arith) in
        let high = p.high (omega (arith, q.within)) in
        omega arith

    by : (doublings v ≡ d) ⊎ ((doublings v < d) ⊎ (d < doublings v)) → doublings v ≡ d
    by (inl e) = e
    by (inr (inl l)) = absurd (less (doublings v) d is h l)
    by (inr (inr l)) = absurd (less d (doublings v) h is l)

-- how many widths of its bucket lie below a value: at least 64 after a doubling, and fewer than 128
-- if a further doubling is possible
pub record HasSteps (v d q : ℕ) : Type 0 where
  pub within : d ≤ 57
  pub low : 0 < d → 64 ≤ q
  pub high : d < 57 → q < 128
  pub from : q * 2 ^ d ≤ v
  pub to : v < (q + 1) * 2 ^ d

pub has_steps : (v d : ℕ) → IsDoubled v d → HasSteps v d (v / 2 ^ d)
has_steps v d h =
    let pos : 0 < 2 ^ d = pow_pos d in
    record {
      within = h.within;
      low = λ p. (le-div_iff_mul-le pos).1 (h.low p);
      high = λ p. (div-lt_iff_lt-mul pos).1 (h.high p);
      from = omega arith;
      to = omega arith;
    }

pub steps : (v : ℕ) → HasSteps v (doublings v) (v / width v)
steps v = has_steps v (doublings v) (is_doubled v)

pub end-ge : (v : ℕ) → v ≤ bucket_end v
end-ge v = omega (arith, (steps v).to)

pub end-le : (v : ℕ) → 64 * bucket_end v ≤ 65 * v
end-le v = by (doublings v) (v / width v) (steps v)
  where
    by : (d q : ℕ) → HasSteps v d q → 64 * ((q + 1) * 2 ^ d - 1) ≤ 65 * v
    by zero q h = omega (arith, h.from)
    by (suc d) q h =
        let low : 64 * 2 ^ suc d ≤ q * 2 ^ suc d = mul-le-mul_right (2 ^ suc d) (h.low (omega arith)) in
        let pos : 0 < 2 ^ suc d = pow_pos (suc d) in
        let from = h.from in
        omega arith

-- a value that is not greater was doubled no more often
pub doublings-mono : (a b : ℕ) → a ≤ b → doublings a ≤ doublings b
doublings-mono a b h = by (cases_lt (doublings b) (doublings a)) (is_doubled a) (is_doubled b)
  where
    by : (doublings b < doublings a) ⊎ (doublings a ≤ doublings b) → IsDoubled a (doublings a) → IsDoubled b (doublings b) → doublings a ≤ doublings b
    by (inr le) p q = le
    by (inl lt) p q =
        let grows : 2 ^ (doublings b + 1) ≤ 2 ^ doublings a = pow-le-pow_right (omega arith) (omega arith) in
        let twice : 2 ^ (doublings b + 1) ≡ 2 ^ doublings b * 2 ^ 1 = pow-add 2 (doublings b) 1 in
        let low = p.low (omega arith) in
        let high = q.high (omega (arith, p.within)) in
        absurd (omega arith)

-- of two values in buckets of one width
steps-mono : (a b d q r : ℕ) → HasSteps a d q → HasSteps b d r → a ≤ b → q ≤ r
steps-mono a b d q r s t h = by (cases_lt r q)
  where
    by : (r < q) ⊎ (q ≤ r) → q ≤ r
    by (inr le) = le
    by (inl lt) =
        let more : (r + 1) * 2 ^ d ≤ q * 2 ^ d = mul-le-mul_right (2 ^ d) (omega arith) in
        let from = s.from in
        let to = t.to in
        absurd (omega arith)

pub bucket-mono : (a b : ℕ) → a ≤ b → bucket a ≤ bucket b
bucket-mono a b h = by (doublings a) (a / width a) (doublings b) (b / width b) (steps a) (steps b) (doublings-mono a b h)
  where
    by : (d q e r : ℕ) → HasSteps a d q → HasSteps b e r → d ≤ e → 64 * d + q ≤ 64 * e + r
    by d q e r s t le = cases (cases_order d e)
      where
        cases : (d ≡ e) ⊎ ((d < e) ⊎ (e < d)) → 64 * d + q ≤ 64 * e + r
        cases (inl same) = omega (arith, steps-mono a b e q r (subst (λ d. HasSteps a d q) same s) t h)
        cases (inr (inl less)) = omega (arith, s.high (omega (arith, t.within)), t.low (omega arith))
        cases (inr (inr more)) = omega arith

-- a bucket number determines how often the width was doubled, and how many widths lie below
pub same_steps : (a b d q e r : ℕ) → HasSteps a d q → HasSteps b e r → 64 * d + q ≡ 64 * e + r → (d ≡ e) × (q ≡ r)
same_steps a b d q e r s t h = by (cases_order d e)
  where
    by : (d ≡ e) ⊎ ((d < e) ⊎ (e < d)) → (d ≡ e) × (q ≡ r)
    by (inl same) = (same, omega arith)
    by (inr (inl less)) = absurd (omega (arith, s.high (omega (arith, t.within)), t.low (omega arith)))
    by (inr (inr more)) = absurd (omega (arith, t.high (omega (arith, s.within)), s.low (omega arith)))

pub end_of_steps : (v d q : ℕ) → doublings v ≡ d → v / width v ≡ q → bucket_end v ≡ (q + 1) * 2 ^ d - 1
end_of_steps v d q e f = ap (λ q. (q + 1) * width v - 1) f ∙ ap (λ d. (q + 1) * 2 ^ d - 1) e

pub end_is_last : (value other : ℕ) → bucket other ≡ bucket value → other ≤ bucket_end value
end_is_last value other h =
    let same = same_steps other value (doublings other) (other / width other) (doublings value) (value / width value) (steps other) (steps value) h in
    omega (arith, end-ge other, end_of_steps other (doublings value) (value / width value) same.0 same.1)

end_doubled : (v : ℕ) → IsDoubled (bucket_end v) (doublings v)
end_doubled v =
    let s = steps v in
    let h = is_doubled v in
    record {
      within = h.within;
      low = λ p. omega (arith, h.low p, end-ge v);
      high = λ p.
          let most : (v / width v + 1) * 2 ^ doublings v ≤ 128 * 2 ^ doublings v = mul-le-mul_right (2 ^ doublings v) (omega (arith, s.high p)) in
          let pos : 0 < 2 ^ doublings v = pow_pos (doublings v) in
          omega arith;
    }

pub bucket_of_end : (v : ℕ) → bucket (bucket_end v) ≡ bucket v
bucket_of_end v =
    let e : doublings (bucket_end v) ≡ doublings v = doublings_is (bucket_end v) (doublings v) (end_doubled v) in
    let pos : 0 < 2 ^ doublings v = pow_pos (doublings v) in
    let same : bucket_end v / width v ≡ v / width v =
    div-eq_of_lt-le (width v) (omega (arith, (steps v).from, end-ge v)) (omega arith)
    in
    ap (λ d. 64 * d + bucket_end v / 2 ^ d) e ∙ ap (λ q. 64 * doublings v + q) same

-- ---- what the code computes

-- the doublings from the logarithm: 2^r is the maximum power of two that is at most the value, or
-- 2^6
pub log_doubled : (v m r : ℕ) → m ≡ max v 64 → 2 ^ r ≤ m → m < 2 * 2 ^ r → r < 64 → (6 ≤ r) × IsDoubled v (r - 6)
log_doubled v m r is low high bound = by (cases_lt r 6)
  where
    by : (r < 6) ⊎ (6 ≤ r) → (6 ≤ r) × IsDoubled v (r - 6)
    by (inl lt) =
        let grows : 2 ^ (r + 1) ≤ 2 ^ 6 = pow-le-pow_right {n = 2} (omega arith) {i = r + 1} {j = 6} (omega arith) in
        let twice : 2 ^ (r + 1) ≡ 2 ^ r * 2 ^ 1 = pow-add 2 r 1 in
        absurd (omega arith)
    by (inr le) =
        let e : 2 ^ r ≡ 64 * 2 ^ (r - 6) = ap (λ x. 2 ^ x) (let f : r ≡ 6 + (r - 6) = omega arith in f) ∙ pow-add 2 6 (r - 6) in (
          le,
          record {
            within = omega arith;
            low = λ p. let twice : 2 ^ 1 ≤ 2 ^ (r - 6) = pow-le-pow_right {n = 2} (omega arith) {i = 1} {j = r - 6} (omega arith) in omega arith;
            high = λ p. omega arith;
          },
        )

-- numbers of values of 64 bits
pub number-lt : (v : ℕ) → v < 2 ^ 64 → bucket v < 3776
number-lt v h = by (cases_lt (doublings v) 57) (steps v)
  where
    by : (doublings v < 57) ⊎ (57 ≤ doublings v) → HasSteps v (doublings v) (v / width v) → bucket v < 3776
    by (inl lt) s = omega (arith, s.high lt)
    by (inr le) s =
        let most : doublings v ≡ 57 = omega (arith, s.within) in
        let few : v / 2 ^ 57 < 128 = (div-lt_iff_lt-mul (pow_pos 57)).1 h in
        let same : v / width v ≡ v / 2 ^ 57 = ap (λ d. v / 2 ^ d) most in
        omega arith

-- the doublings and widths that a number gives for its bucket
pub end_found : (v number d q : ℕ) → HasSteps v d q → number ≡ 64 * d + q → number < 3776
    → (number / 64 - 1 ≡ d) × (number - 64 * (number / 64 - 1) ≡ q)
end_found v number d q s e h = by (cases_lt 0 d) (cases_lt d 57)
  where
    by : (0 < d) ⊎ (d ≤ 0) → (d < 57) ⊎ (57 ≤ d) → (number / 64 - 1 ≡ d) × (number - 64 * (number / 64 - 1) ≡ q)
    by (inl p) (inl lt) = let low = s.low p in let high = s.high lt in (omega arith, omega arith)
    by (inl p) (inr le) = let low = s.low p in let most = s.within in (omega arith, omega arith)
    by (inr z) (inl lt) = let high = s.high lt in (omega arith, omega arith)
    by (inr z) (inr le) = absurd (omega arith)

-- the width that a number tells, as it is computed, and the bounds of the end
pub width_found : (d : ℕ) → d ≤ 57 → (1 * 2 ^ d) % 2 ^ 64 ≡ 2 ^ d
width_found d h = one_shl d 64 (omega arith)

pub end_fits : (d q w : ℕ) → w ≡ 2 ^ d → d ≤ 57 → q < 128 → q * w + w ≤ 2 ^ 64
end_fits d q w e h f =
    let grows : 2 ^ d ≤ 2 ^ 57 = pow-le-pow_right {n = 2} (omega arith) {i = d} {j = 57} h in
    let most : (q + 1) * w ≤ 128 * w = mul-le-mul_right w (omega arith) in
    omega arith

pub end_computed : (d q a w : ℕ) → a ≡ q → w ≡ 2 ^ d → a * w + (w - 1) ≡ (q + 1) * 2 ^ d - 1
end_computed d q a w e f =
    let pos : 0 < 2 ^ d = pow_pos d in
    ap (λ a. a * w + (w - 1)) e ∙ ap (λ w. q * w + (w - 1)) f ∙ omega arith
