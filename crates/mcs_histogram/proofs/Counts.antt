-- Counts of values, and one value more.
use Rattle.std.proofs.Common.{◌≡◌, ◌≢◌, ℕ, zero, suc, ◌+◌, ◌-◌, ◌<◌, ◌≤◌, ◌⊎◌, inl, inr, eqb, ltb, List, [], ◌∷◌, length, get_or, set, map, take, drop, replicate, sum, refl, sym, ap, ◌∙◌, arith}
use Rattle.std.specs.List.{range_with_len}
use Rattle.std.proofs.Math.Nat.{zero-add}
use Rattle.std.proofs.lemmas.Bool.{cases_eq, cases_order, eq-eqb, ne_eqb, lt-ltb, le-ltb}
use Rattle.std.proofs.lemmas.List.{length-set, length-drop, length-replicate, get_or-set_same, get_or-set_other, get_or-replicate}
use Rattle.std.proofs.lemmas.List.FromFn.{length-map-range_with_len, get_or-map-range_with_len, take-map-range_with_len, sum_by-map-range_with_len_more, fill_by_all}
use Rattle.mcs_histogram.specs.Buckets.{bucket}
use Rattle.mcs_histogram.specs.Histogram.{count_in, counts_of}
use Rattle.mcs_histogram.proofs.Lists.{tally, count_by-cons, count_by-add, count_by-none}
use Rattle.mcs_histogram.proofs.Percentiles.{below}

-- ---- the first `most` of the values, the latest first
abbrev pub kept : ℕ → List ℕ → List ℕ
kept most values = drop (length values - most) values

pub kept_more : (most value : ℕ) (values : List ℕ) → length (kept most values) < most → kept most (value ∷ values) ≡ value ∷ kept most values
kept_more most value values h =
    let l : length (kept most values) ≡ length values - (length values - most) = length-drop (length values - most) values in
    let none : length values - most ≡ 0 = omega arith in
    let still : suc (length values) - most ≡ 0 = omega arith in
    ap (λ n. drop n (value ∷ values)) still ∙ ap (λ n. value ∷ drop n values) (sym none)

pub kept_full : (most value : ℕ) (values : List ℕ) → most ≤ length (kept most values) → kept most (value ∷ values) ≡ kept most values
kept_full most value values h =
    let l : length (kept most values) ≡ length values - (length values - most) = length-drop (length values - most) values in
    let one : suc (length values) - most ≡ suc (length values - most) = omega arith in
    ap (λ n. drop n (value ∷ values)) one

-- ---- a count of each bucket
at_number : (f : ℕ → ℕ) (n k : ℕ) → k < n → get_or (map f (range_with_len 0 n)) k 0 ≡ f k
at_number f n k h = get_or-map-range_with_len f 0 n k k 0 h (zero-add k)

-- one value more at this number, and the same at all others
set_number : (f g : ℕ → ℕ) (n y new : ℕ) → (y < n → new ≡ g y) → ((k : ℕ) → k ≢ y → f k ≡ g k) → set (map f (range_with_len 0 n)) y new ≡ map g (range_with_len 0 n)
set_number f g n y new is others =
    fill_by_all g (set (map f (range_with_len 0 n)) y new) n 0 (length-set (map f (range_with_len 0 n)) y new ∙ length-map-range_with_len f 0 n) each
  where
    each : (k : ℕ) → k < n → get_or (set (map f (range_with_len 0 n)) y new) k 0 ≡ g k
    each k h = by (cases_eq k y)
      where
        by : (k ≡ y) ⊎ (k ≢ y) → get_or (set (map f (range_with_len 0 n)) y new) k 0 ≡ g k
        by (inl e) =
            ap (λ i. get_or (set (map f (range_with_len 0 n)) y new) i 0) e
            ∙ get_or-set_same (map f (range_with_len 0 n)) y new 0 (omega (arith, length-map-range_with_len f 0 n))
            ∙ is (omega arith)
            ∙ ap g (sym e)
        by (inr differ) = get_or-set_other (map f (range_with_len 0 n)) y k new 0 differ ∙ at_number f n k h ∙ others k differ

count_in-same : (values : List ℕ) (value : ℕ) → count_in (value ∷ values) (bucket value) ≡ count_in values (bucket value) + 1
count_in-same values value =
    omega (arith, count_by-cons (λ v. eqb (bucket v) (bucket value)) value values, ap tally (eq-eqb (bucket value) (bucket value) refl))

count_in-other : (values : List ℕ) (value number : ℕ) → number ≢ bucket value → count_in values number ≡ count_in (value ∷ values) number
count_in-other values value number differ =
    omega (arith, count_by-cons (λ v. eqb (bucket v) number) value values, ap tally (ne_eqb (bucket value) number (λ e. differ (sym e))))

pub counts-more : (limit value new : ℕ) (values counts : List ℕ) → counts ≡ counts_of limit values
    → (bucket value < length counts → new ≡ get_or counts (bucket value) 0 + 1)
    → set counts (bucket value) new ≡ counts_of limit (value ∷ values)
counts-more limit value new values counts e is =
    ap (λ counts. set counts (bucket value) new) e
    ∙ set_number (count_in values) (count_in (value ∷ values)) (bucket limit + 1) (bucket value) new here (count_in-other values value)
  where
    here : bucket value < bucket limit + 1 → new ≡ count_in (value ∷ values) (bucket value)
    here h =
        let l : length counts ≡ bucket limit + 1 = ap length e ∙ length-map-range_with_len (count_in values) 0 (bucket limit + 1) in
        is (omega arith)
        ∙ ap (λ counts. get_or counts (bucket value) 0 + 1) e
        ∙ ap (λ n. n + 1) (at_number (count_in values) (bucket limit + 1) (bucket value) h)
        ∙ sym (count_in-same values value)

pub counts-none : (limit : ℕ) → replicate (bucket limit + 1) 0 ≡ counts_of limit []
counts-none limit =
    fill_by_all (count_in []) (replicate (bucket limit + 1) 0) (bucket limit + 1) 0 (length-replicate (bucket limit + 1) 0)
    (λ k h. get_or-replicate (bucket limit + 1) k 0 0 h)

-- ---- the first counts together
below-more : (values : List ℕ) (number : ℕ) → below values (number + 1) ≡ below values number + count_in values number
below-more values number =
    count_by-add (λ v. ltb (bucket v) number) (λ v. eqb (bucket v) number) (λ v. ltb (bucket v) (number + 1)) values (λ v. one (bucket v))
  where
    one : (b : ℕ) → tally (ltb b (number + 1)) ≡ tally (ltb b number) + tally (eqb b number)
    one b = elim (cases_order b number) [
      | inl same ↦
          omega (
            arith,
            ap tally (eq-eqb b number same),
            ap tally (lt-ltb b (number + 1) (omega arith)),
            ap tally (le-ltb b number (omega arith)),
          )
      | inr (inl less) ↦
          omega (
            arith,
            ap tally (ne_eqb b number (λ e. omega arith)),
            ap tally (lt-ltb b (number + 1) (omega arith)),
            ap tally (lt-ltb b number less),
          )
      | inr (inr more) ↦
          omega (
            arith,
            ap tally (ne_eqb b number (λ e. omega arith)),
            ap tally (le-ltb b (number + 1) (omega arith)),
            ap tally (le-ltb b number (omega arith)),
          )
    ]

sum-range : (values : List ℕ) (n : ℕ) → sum (map (count_in values) (range_with_len 0 n)) ≡ below values n
sum-range values zero = sym (count_by-none (λ v. ltb (bucket v) 0) values (λ v i. le-ltb (bucket v) 0 (omega arith)))
sum-range values (suc n) =
    ap (λ n. sum (map (count_in values) (range_with_len 0 n))) (let e : suc n ≡ n + 1 = omega arith in e)
    ∙ sum_by-map-range_with_len_more (λ x. x) (count_in values) 0 n n (zero-add n)
    ∙ ap (λ x. x + count_in values n) (sum-range values n)
    ∙ sym (below-more values n)
    ∙ ap (below values) (let e : n + 1 ≡ suc n = omega arith in e)

pub sum-take : (limit number : ℕ) (values counts : List ℕ) → counts ≡ counts_of limit values → number ≤ length counts
    → sum (take number counts) ≡ below values number
sum-take limit number values counts e h =
    let l : length counts ≡ bucket limit + 1 = ap length e ∙ length-map-range_with_len (count_in values) 0 (bucket limit + 1) in
    ap (λ counts. sum (take number counts)) e
    ∙ ap sum (take-map-range_with_len (count_in values) 0 (bucket limit + 1) number (omega arith))
    ∙ sum-range values number
