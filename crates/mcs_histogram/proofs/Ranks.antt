-- Percentiles by the order of values, and values that count as they are.
use Rattle.std.proofs.Common.{◌≡◌, ℕ, zero, suc, ◌+◌, ◌-◌, ◌*◌, ◌^◌, ◌<◌, ◌≤◌, min, inl, inr, Bool, true, false, eqb, leb, List, [], ◌∷◌, length, get_or, map, drop, Some, All, refl, sym, ap, ◌∙◌, arith}
use Rattle.std.specs.Prelude.{slice_get, IsPermutation}
use Rattle.std.specs.Int.{div_ceil}
use Rattle.std.specs.List.{count_by, filter, list_any}
use Rattle.std.specs.List.Sorted.{IsNonDecreasing}
use Rattle.std.proofs.Math.Nat.{mul-le-mul_right}
use Rattle.std.proofs.lemmas.Bool.{cases_lt, eq-eqb, eqb-true, le-leb, lt-leb, leb-true, or_cases, or_left, or_right}
use Rattle.std.proofs.lemmas.List.{length-map, get_or-map, same_lists, nil_from_length}
use Rattle.std.proofs.lemmas.List.Sorted.{length_permutation, sum_by-IsPermutation, list_any-IsPermutation}
use Rattle.std.proofs.lemmas.Option.{slice_get-get_or}
use Rattle.mcs_histogram.specs.Percentile.{covers, percentile}
use Rattle.mcs_histogram.specs.Histogram.{counted}
use Rattle.mcs_histogram.proofs.Lists.{In, tally, count_by-cons, is_least, has_least, in_filter, from_filter}

-- the minimum value that covers `percent` percent
percentile_is : (percent : ℕ) (values : List ℕ) (m : ℕ) → In m values → covers percent values m ≡ true
    → ((y : ℕ) → covers percent values y ≡ true → m ≤ y) → percentile percent values ≡ Some m
percentile_is percent values m i enough least = by (has_least (filter (covers percent values) values) m is_in)
  where
    is_in : In m (filter (covers percent values) values)
    is_in = in_filter (covers percent values) values m i enough

    by : (x : ℕ) × (percentile percent values ≡ Some x) → percentile percent values ≡ Some m
    by (x, e) =
        let found = is_least (filter (covers percent values) values) x e in
        let low = found.others m is_in in
        let high = least x (from_filter (covers percent values) values x found.is_in).1 in
        e ∙ ap Some (omega arith)

-- ---- lists with the same elements
any_from_in : (xs : List ℕ) (x : ℕ) → In x xs → list_any (eqb x) xs ≡ true
any_from_in [] x i = absurd i
any_from_in (y ∷ ys) x i =
    elim i [ inl same ↦ or_left (eqb x y) (list_any (eqb x) ys) (eq-eqb x y same) | inr j ↦ or_right (eqb x y) (list_any (eqb x) ys) (any_from_in ys x j) ]

in_from_any : (xs : List ℕ) (x : ℕ) → list_any (eqb x) xs ≡ true → In x xs
in_from_any [] x e = absurd (cc)
in_from_any (y ∷ ys) x e =
    elim (or_cases (eqb x y) (list_any (eqb x) ys) e) [ inl here ↦ inl (eqb-true x y here) | inr there ↦ inr (in_from_any ys x there) ]

in_permutation : (xs ys : List ℕ) (x : ℕ) → IsPermutation xs ys → In x ys → In x xs
in_permutation xs ys x h i = in_from_any xs x (list_any-IsPermutation (eqb x) xs ys h ∙ any_from_in ys x i)

-- ---- counts by places
in_at : (xs : List ℕ) (k : ℕ) → k < length xs → In (get_or xs k 0) xs
in_at [] k h = absurd (omega arith)
in_at (x ∷ xs) zero h = inl refl
in_at (x ∷ xs) (suc k) h = inr (in_at xs k (omega arith))

-- the first n elements satisfy the predicate
at_least : (p : ℕ → Bool) (xs : List ℕ) (n : ℕ) → n ≤ length xs → ((i : ℕ) → i < n → p (get_or xs i 0) ≡ true) → n ≤ count_by p xs
at_least p [] n h each = h
at_least p (x ∷ xs) zero h each = omega arith
at_least p (x ∷ xs) (suc n) h each =
    omega (arith, count_by-cons p x xs, ap tally (each 0 (omega arith)), at_least p xs n (omega arith) (λ i l. each (suc i) (omega arith)))

-- none passes from here on
at_most : (p : ℕ → Bool) (xs : List ℕ) (n : ℕ) → ((i : ℕ) → n ≤ i → i < length xs → p (get_or xs i 0) ≡ false) → count_by p xs ≤ n
at_most p [] n each = omega arith
at_most p (x ∷ xs) zero each =
    omega (arith, count_by-cons p x xs, ap tally (each 0 (omega arith) (omega arith)), at_most p xs zero (λ i l h. each (suc i) (omega arith) (omega arith)))
at_most p (x ∷ xs) (suc n) each =
    omega (arith, count_by-cons p x xs, one (p x), at_most p xs n (λ i l h. each (suc i) (omega arith) (omega arith)))
  where
    one : (b : Bool) → tally b ≤ 1
    one true = omega arith
    one false = omega arith

-- ---- nearest rank
module _ (percent : ℕ) (values rising : List ℕ) (some : 0 < percent) (whole : percent ≤ 100) (same : IsPermutation values rising) (sorted : IsNonDecreasing rising) where
  -- the index, from 0, of an existing value
  bounds : (place : ℕ) → 0 < length values → place ≡ div_ceil (percent * length values) 100 - 1
      → (place < length values) × (100 * place < percent * length values) × (percent * length values ≤ 100 * (place + 1))
  bounds place known is =
      let more : 1 * length values ≤ percent * length values = mul-le-mul_right (length values) (omega arith) in
      let less : percent * length values ≤ 100 * length values = mul-le-mul_right (length values) whole in
      (omega arith, omega arith, omega arith)

  counts : (p : ℕ → Bool) → count_by p rising ≡ count_by p values
  counts p = sum_by-IsPermutation (λ x. tally (p x)) values rising same

  ranked : (place : ℕ) → 0 < length values → place ≡ div_ceil (percent * length values) 100 - 1 → percentile percent values ≡ slice_get rising place
  ranked place known is =
      let b = bounds place known is in
      let long : length rising ≡ length values = length_permutation values rising same in
      let x = get_or rising place 0 in
      let many : place + 1 ≤ count_by (λ v. leb v x) rising =
      at_least (λ v. leb v x) rising (place + 1) (omega (arith, b.0)) (λ i l. le-leb (get_or rising i 0) x (sorted i place 0 (omega arith) (omega (arith, b.0))))
      in
      let enough : covers percent values x ≡ true =
      le-leb (percent * length values) (100 * count_by (λ v. leb v x) values) (omega (arith, b.2, counts (λ v. leb v x)))
      in
      let least : (y : ℕ) → covers percent values y ≡ true → x ≤ y = λ y e.
      elim (cases_lt y x) [
        | inr le ↦ le
        | inl lt ↦
            let few : count_by (λ v. leb v y) rising ≤ place =
            at_most (λ v. leb v y) rising place (λ i l h. lt-leb (get_or rising i 0) y (omega (arith, sorted place i 0 l h)))
            in
            absurd (omega (arith, leb-true (percent * length values) (100 * count_by (λ v. leb v y) values) e, b.1, counts (λ v. leb v y)))
      ]
      in
      percentile_is percent values x (in_permutation values rising x same (in_at rising place (omega (arith, b.0)))) enough least
      ∙ sym (slice_get-get_or rising place 0 (omega (arith, b.0)))

pub by_rank : (percent : ℕ) (values rising : List ℕ) → 0 < percent → percent ≤ 100 → IsPermutation values rising → IsNonDecreasing rising
    → percentile percent values ≡ slice_get rising (div_ceil (percent * length values) 100 - 1)
by_rank percent [] rising some whole same sorted =
    ap (λ (xs : List ℕ). slice_get xs (div_ceil (percent * 0) 100 - 1)) (sym (nil_from_length rising (length_permutation [] rising same)))
by_rank percent (x ∷ xs) rising some whole same sorted =
    ranked percent (x ∷ xs) rising some whole same sorted (div_ceil (percent * length (x ∷ xs)) 100 - 1) (omega arith) refl

-- ---- values that count as they are
pub all_counted : (limit : ℕ) (values : List ℕ) → All (λ value. value ≤ limit) values → length values < 2 ^ 64 → counted limit values ≡ values
all_counted limit values in_range few =
    let none : length values - (2 ^ 64 - 1) ≡ 0 = omega arith in
    ap (λ n. map (λ (v : ℕ). min v limit) (drop n values)) none
    ∙ same_lists (map (λ (v : ℕ). min v limit) values) values (length-map values (λ (v : ℕ). min v limit))
    (λ k d h.
    let known : k < length values = omega (arith, length-map values (λ (v : ℕ). min v limit)) in
    get_or-map (λ (v : ℕ). min v limit) values k d d known ∙ omega (arith, in_range k d known))
