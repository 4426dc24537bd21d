-- Values worked by hand.
use Rattle.std.proofs.Common.{◌≡◌, ℕ, List, [], ◌∷◌, Some, None, refl}
use Rattle.mcs_histogram.specs.Buckets.{doublings, bucket, bucket_end}
use Rattle.mcs_histogram.specs.Percentile.{percentile}
use Rattle.mcs_histogram.specs.Histogram.{counted, counts_of, histogram_of, told_percentile}

-- ---- buckets
-- the last value that has its own
alone : bucket_end 127 ≡ 127
unfolding doublings
alone = refl

alone_number : bucket 127 ≡ 127
unfolding doublings
alone_number = refl

-- then two values each, 128 and 129 first
two : bucket_end 128 ≡ 129
unfolding doublings
two = refl

two_number : bucket 129 ≡ 128
unfolding doublings
two_number = refl

last_of_two : bucket 255 ≡ 191
unfolding doublings
last_of_two = refl

-- then four
four : bucket_end 256 ≡ 259
unfolding doublings
four = refl

four_number : bucket 256 ≡ 192
unfolding doublings
four_number = refl

-- 1000 to 1007
eight : bucket_end 1000 ≡ 1007
unfolding doublings
eight = refl

-- 2^40 to 2^40 + 2^34 - 1
at_2_40 : bucket_end 1099511627776 ≡ 1116691496959
unfolding doublings
at_2_40 = refl

-- the greatest number of 64 bits: of 57 * 64 + 128 buckets the last
greatest_end : bucket_end 18446744073709551615 ≡ 18446744073709551615
unfolding doublings
greatest_end = refl

greatest_number : bucket 18446744073709551615 ≡ 3775
unfolding doublings
greatest_number = refl

-- ---- percentiles: among 15, 20, 35, 40 and 50 the ranks of 5, 30, 40, 50 and 100 percent are 1,
-- 2, 2, 3 and 5
five : List ℕ
five = 35 ∷ 20 ∷ 15 ∷ 50 ∷ 40 ∷ []

five_5 : percentile 5 five ≡ Some 15
unfolding five
five_5 = refl

five_30 : percentile 30 five ≡ Some 20
unfolding five
five_30 = refl

five_40 : percentile 40 five ≡ Some 20
unfolding five
five_40 = refl

five_50 : percentile 50 five ≡ Some 35
unfolding five
five_50 = refl

five_100 : percentile 100 five ≡ Some 50
unfolding five
five_100 = refl

-- of ten values, two of them 8, the places of 25, 50, 75 and 100 percent are 3, 5, 8 and 10
ten : List ℕ
ten = 8 ∷ 3 ∷ 20 ∷ 7 ∷ 6 ∷ 13 ∷ 10 ∷ 8 ∷ 16 ∷ 15 ∷ []

ten_25 : percentile 25 ten ≡ Some 7
unfolding ten
ten_25 = refl

ten_50 : percentile 50 ten ≡ Some 8
unfolding ten
ten_50 = refl

ten_75 : percentile 75 ten ≡ Some 15
unfolding ten
ten_75 = refl

ten_100 : percentile 100 ten ≡ Some 20
unfolding ten
ten_100 = refl

of_none : percentile 50 [] ≡ None
of_none = refl

-- ---- what is kept
above_the_limit : counted 10 (12 ∷ 3 ∷ []) ≡ 10 ∷ 3 ∷ []
above_the_limit = refl

in_each_bucket : counts_of 5 (1 ∷ 5 ∷ 1 ∷ []) ≡ 0 ∷ 2 ∷ 0 ∷ 0 ∷ 0 ∷ 1 ∷ []
unfolding doublings
in_each_bucket = refl

all_fields : histogram_of 3 (9 ∷ 1 ∷ []) ≡ record { limit = 3; count = 2; greatest = 3; counts = 0 ∷ 1 ∷ 0 ∷ 1 ∷ [] }
unfolding doublings
all_fields = refl

-- ---- the reported percentile: of 260, 300 and 1000 the rank of 50 percent is 2, and the bucket of
-- 300 ends at 303
told_50 : told_percentile 50 (300 ∷ 260 ∷ 1000 ∷ []) ≡ Some 303
unfolding doublings
told_50 = refl

-- that of 99 percent is 3, whose bucket ends at 1007, and 1000 is the greatest
told_99 : told_percentile 99 (300 ∷ 260 ∷ 1000 ∷ []) ≡ Some 1000
unfolding doublings
told_99 = refl

told_of_none : told_percentile 50 [] ≡ None
told_of_none = refl
