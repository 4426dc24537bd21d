-- Percentiles by counts of buckets, and their distance from the reported ones.
use Rattle.std.proofs.Common.{◌≡◌, ℕ, ◌+◌, ◌*◌, ◌<◌, ◌≤◌, min, inl, inr, Bool, true, leb, ltb, List, length, Option, Some, None, refl, ap, arith}
use Rattle.std.specs.List.{count_by, filter}
use Rattle.std.specs.Option.{option_map}
use Rattle.std.proofs.lemmas.Bool.{cases_lt, le-leb, leb-true, lt-ltb, ltb-true}
use Rattle.mcs_histogram.specs.Buckets.{bucket, bucket_end}
use Rattle.mcs_histogram.specs.Percentile.{covers, percentile}
use Rattle.mcs_histogram.specs.Histogram.{greatest_of, told_percentile}
use Rattle.mcs_histogram.proofs.Buckets.{bucket-mono, end-ge, end-le}
use Rattle.mcs_histogram.proofs.Lists.{In, count_by-le, all_pass, IsGreatest, greatest_that_passes, le-fold-max, fold-max-le, is_least, has_least, in_filter, from_filter}

-- how many values lie in buckets below this one
abbrev pub below : List ℕ → ℕ → ℕ
below values number = count_by (λ value. ltb (bucket value) number) values

-- the percentile lies in the first bucket up to which there are at least `percent` percent of the
-- values
pub percentile_found : (percent number : ℕ) (values : List ℕ) → 100 * below values number < percent * length values
    → percent * length values ≤ 100 * below values (number + 1)
    → (value : ℕ) × (percentile percent values ≡ Some value) × (bucket value ≡ number)
percentile_found percent number values less enough = with_greatest (greatest_that_passes upto values (omega arith))
  where
    upto : ℕ → Bool
    upto value = ltb (bucket value) (number + 1)

    lower : (m : ℕ) → covers percent values m ≡ true → number ≤ bucket m
    lower m h = elim (cases_lt (bucket m) number) [
      | inr le ↦ le
      | inl lt ↦
          let few : count_by (λ value. leb value m) values ≤ below values number =
          count_by-le (λ value. leb value m) (λ value. ltb (bucket value) number) values
          (λ y i e. lt-ltb (bucket y) number (omega (arith, bucket-mono y m (leb-true y m e))))
          in
          let many = leb-true (percent * length values) (100 * count_by (λ value. leb value m) values) h in
          absurd (omega arith)
    ]

    with_least : (x : ℕ) → IsGreatest upto values x → (m : ℕ) × (percentile percent values ≡ Some m) → In x (filter (covers percent values) values)
        → (value : ℕ) × (percentile percent values ≡ Some value) × (bucket value ≡ number)
    with_least x g (m, e) i =
        let least = is_least (filter (covers percent values) values) m e in
        let from = from_filter (covers percent values) values m least.is_in in
        let x_at = ltb-true (bucket x) (number + 1) g.passes in
        (m, e, omega (arith, lower m from.1, bucket-mono m x (least.others x i)))

    with_greatest : (x : ℕ) × IsGreatest upto values x → (value : ℕ) × (percentile percent values ≡ Some value) × (bucket value ≡ number)
    with_greatest (x, g) =
        let many : below values (number + 1) ≤ count_by (λ value. leb value x) values =
        count_by-le upto (λ value. leb value x) values (λ y i e. le-leb y x (g.others y i e))
        in
        let i = in_filter (covers percent values) values x g.is_in
        (le-leb (percent * length values) (100 * count_by (λ value. leb value x) values) (omega arith))
        in
        with_least x g (has_least (filter (covers percent values) values) x i) i

-- ---- the reported percentile
pub told-le : (percent : ℕ) (values : List ℕ) (value : ℕ) → percentile percent values ≡ Some value → value ≤ greatest_of values
told-le percent values value e =
    le-fold-max values value (from_filter (covers percent values) values value (is_least (filter (covers percent values) values) value e).is_in).0

pub told-near : (percent : ℕ) (values : List ℕ) (value : ℕ) → percentile percent values ≡ Some value
    → (told : ℕ) × (told_percentile percent values ≡ Some told) × (value ≤ told) × (64 * told ≤ 65 * value) × (told ≤ greatest_of values)
told-near percent values value e = (
  min (bucket_end value) (greatest_of values),
  ap (option_map (λ value. min (bucket_end value) (greatest_of values))) e,
  omega (arith, end-ge value, told-le percent values value e),
  omega (arith, end-le value),
  omega arith,
)

-- all values are at most the hundredth
hundredth-ge : (values : List ℕ) (value : ℕ) → percentile 100 values ≡ Some value → greatest_of values ≤ value
hundredth-ge values value e =
    let found = from_filter (covers 100 values) values value (is_least (filter (covers 100 values) values) value e).is_in in
    let all = leb-true (100 * length values) (100 * count_by (λ v. leb v value) values) found.1 in
    fold-max-le values value (λ x i. leb-true x value (all_pass (λ v. leb v value) values x (omega arith) i))

pub told-hundredth : (values : List ℕ) → told_percentile 100 values ≡ percentile 100 values
told-hundredth values = by (percentile 100 values) refl
  where
    by : (o : Option ℕ) → percentile 100 values ≡ o → option_map (λ value. min (bucket_end value) (greatest_of values)) o ≡ o
    by None e = refl
    by (Some value) e = ap Some (omega (arith, end-ge value, told-le 100 values value e, hundredth-ge values value e))
