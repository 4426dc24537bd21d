-- The state after one more value, and the percentile that is returned.
use Rattle.std.proofs.Common.{◌≡◌, ℕ, suc, ◌+◌, ◌-◌, ◌*◌, ◌^◌, ◌<◌, ◌≤◌, min, max, List, ◌∷◌, length, get_or, set, map, take, sum, Some, sym, ap, ◌∙◌, arith}
use Rattle.std.specs.Int.{div_ceil}
use Rattle.std.specs.Option.{option_map}
use Rattle.std.proofs.lemmas.List.{length-map, get_or_default}
use Rattle.std.proofs.lemmas.List.Sums.{sum_by-set, get_or-le-sum_by}
use Rattle.mcs_histogram.specs.Buckets.{bucket, bucket_end}
use Rattle.mcs_histogram.specs.Percentile.{percentile}
use Rattle.mcs_histogram.specs.Histogram.{Histogram, histogram_of, counted, counts_of, greatest_of, told_percentile}
use Rattle.mcs_histogram.proofs.Buckets.{bucket-mono}
use Rattle.mcs_histogram.proofs.Lists.{fold-max}
use Rattle.mcs_histogram.proofs.Counts.{kept, kept_more, kept_full, counts-more, sum-take}
use Rattle.mcs_histogram.proofs.Percentiles.{percentile_found}

abbrev pub made : ℕ → ℕ → ℕ → List ℕ → Histogram
made limit count greatest counts = record { limit = limit; count = count; greatest = greatest; counts = counts }

same_made : (a b c d e f : ℕ) (xs ys : List ℕ) → a ≡ b → c ≡ d → e ≡ f → xs ≡ ys → made a c e xs ≡ made b d f ys
same_made a b c d e f xs ys p q r s = ap (λ a. made a c e xs) p ∙ ap (λ c. made b c e xs) q ∙ ap (λ e. made b d e xs) r ∙ ap (λ xs. made b d f xs) s

-- of the values that count
abbrev of_counted : ℕ → List ℕ → Histogram
of_counted limit values = made limit (length values) (greatest_of values) (counts_of limit values)

counted_more : (limit value : ℕ) (values : List ℕ) → length (counted limit values) < 2 ^ 64 - 1
    → counted limit (value ∷ values) ≡ min value limit ∷ counted limit values
counted_more limit value values h =
    ap (map (λ (v : ℕ). min v limit))
    (kept_more (2 ^ 64 - 1) value values (omega (arith, length-map (kept (2 ^ 64 - 1) values) (λ (v : ℕ). min v limit))))

-- if no further value counts, the state does not change
pub full : (limit value : ℕ) (values : List ℕ) → 2 ^ 64 - 1 ≤ length (counted limit values) → histogram_of limit (value ∷ values) ≡ histogram_of limit values
full limit value values h =
    ap (λ values. of_counted limit (map (λ (v : ℕ). min v limit) values))
    (kept_full (2 ^ 64 - 1) value values (omega (arith, length-map (kept (2 ^ 64 - 1) values) (λ (v : ℕ). min v limit))))

-- there is a count for each value up to the limit
pub has_room : (value limit least number : ℕ) (counts : List ℕ) → least ≡ min value limit → number ≡ bucket least → length counts ≡ bucket limit + 1
    → number < length counts
has_room value limit least number counts is_least is_number room = omega (arith, bucket-mono least limit (omega arith))

-- the fields after one value more, with what was the count of its bucket
pub recorded : (limit count greatest value least most number before l : ℕ) (counts values : List ℕ)
    → made limit count greatest counts ≡ histogram_of l values → count < 2 ^ 64 - 1 → least ≡ min value limit → most ≡ max greatest least
    → number ≡ bucket least → number < length counts → before ≡ get_or counts number before
    → made limit (count + 1) most (set counts number (before + 1)) ≡ histogram_of l (value ∷ values)
recorded limit count greatest value least most number before l counts values e room is_least is_most is_number known is =
    let V = counted l values in
    let same : limit ≡ l = ap (λ (h : Histogram). h.limit) e in
    let counted_so : count ≡ length V = ap (λ (h : Histogram). h.count) e in
    let greatest_so : greatest ≡ greatest_of V = ap (λ (h : Histogram). h.greatest) e in
    let counts_so : counts ≡ counts_of l V = ap (λ (h : Histogram). h.counts) e in
    let held : least ≡ min value l = is_least ∙ ap (λ x. min value x) same in
    let before_so : before ≡ get_or counts (bucket least) 0 = is ∙ get_or_default counts number before 0 known ∙ ap (λ n. get_or counts n 0) is_number in
    let most_so : most ≡ greatest_of (least ∷ V) = omega (arith, fold-max V (max 0 least)) in
    let counts_then : set counts number (before + 1) ≡ counts_of l (least ∷ V) =
    ap (λ n. set counts n (before + 1)) is_number ∙ counts-more l least (before + 1) V counts counts_so (λ h. ap (λ n. n + 1) before_so)
    in
    same_made limit l (count + 1) (suc (length V)) most (greatest_of (least ∷ V)) (set counts number (before + 1)) (counts_of l (least ∷ V))
    same (omega arith) most_so counts_then
    ∙ ap (λ x. of_counted l (x ∷ V)) held
    ∙ ap (of_counted l) (sym (counted_more l value values (omega arith)))

-- the sum of the counts is the count, before and after
pub sum_more : (counts : List ℕ) (number before count : ℕ) → sum counts ≡ count → number < length counts → before ≡ get_or counts number before
    → (before ≤ count) × (sum (set counts number (before + 1)) ≡ count + 1)
sum_more counts number before count e known is =
    let least = get_or-le-sum_by (λ x. x) counts number before known in
    let more = sum_by-set (λ x. x) counts number (before + 1) before known in
    (omega arith, omega arith)

-- the reported percentile comes from the first bucket up to which there are at least `rank` values
pub told : (percent number rank last greatest : ℕ) (limit count : ℕ) (counts : List ℕ) (l : ℕ) (values : List ℕ)
    → made limit count greatest counts ≡ histogram_of l values → rank ≡ div_ceil (percent * count) 100
    → number < length counts → sum (take number counts) < rank → rank ≤ sum (take (number + 1) counts)
    → ((value : ℕ) → number ≡ bucket value → last ≡ bucket_end value)
    → Some (min last greatest) ≡ told_percentile percent (counted l values)
told percent number rank last greatest limit count counts l values e is known less enough ends = by found
  where
    V : List ℕ
    V = counted l values

    counted_so : count ≡ length V
    counted_so = ap (λ (h : Histogram). h.count) e

    greatest_so : greatest ≡ greatest_of V
    greatest_so = ap (λ (h : Histogram). h.greatest) e

    counts_so : counts ≡ counts_of l V
    counts_so = ap (λ (h : Histogram). h.counts) e

    all : percent * count ≡ percent * length V
    all = ap (λ n. percent * n) counted_so

    found : (value : ℕ) × (percentile percent V ≡ Some value) × (bucket value ≡ number)
    found = percentile_found percent number V
        (omega (arith, sum-take l number V counts counts_so (omega arith), all))
        (omega (arith, sum-take l (number + 1) V counts counts_so (omega arith), all))

    by : (value : ℕ) × (percentile percent V ≡ Some value) × (bucket value ≡ number) → Some (min last greatest) ≡ told_percentile percent V
    by (value, at, in_it) =
        ap (λ x. Some (min x greatest)) (ends value (sym in_it))
        ∙ ap (λ x. Some (min (bucket_end value) x)) greatest_so
        ∙ sym (ap (option_map (λ value. min (bucket_end value) (greatest_of V))) at)
