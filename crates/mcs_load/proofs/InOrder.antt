-- If the tests of a source pass, its dates are in order.
use Rattle.std.proofs.Common.{◌≡◌, ℕ, ℤ, pos, negsuc, zero, suc, ◌+◌, ◌-◌, ◌^◌, ◌<◌, ◌≤◌, nat_le, Bool, true, false, ◌&&◌, List, [], ◌∷◌, ◌++◌, length, length-append, Option, Some, None, is_some, All, AllPairs, refl, ap, sym, ◌∙◌, arith}
use Rattle.std.specs.Prelude.{fold}
use Rattle.std.proofs.lemmas.Bool.{and_parts, leb-true}
use Rattle.std.proofs.lemmas.List.Elements.{All-nil, All-cons, All-head, All-tail, All-append, All-weaker}
use Rattle.toml.specs.Data.{Data, Members, as_integer}
use Rattle.mcs_system.specs.declared.part.Beat.{Beat}
use Rattle.mcs_system.specs.WellFormed.{DoPrecede}
use Rattle.mcs_load.specs.declared.at.At.{At}
use Rattle.mcs_load.specs.declared.source.Dates.{Dates}
use Rattle.mcs_load.specs.declared.source.Pace.{Pace}
use Rattle.mcs_load.specs.declared.spot.Key.TheVariants as key
use Rattle.mcs_load.specs.Checks.{first_failed}
use Rattle.mcs_load.specs.Words.{if_there, is_in_range, number_or, item_count, whole_number, number_with_default, each}
use Rattle.mcs_load.specs.Dates.{least_after, offset, next_offset, few_offsets, at_values, read_values, offsets, share, beat_of, beats_from, dates_of, read_dates}
use Rattle.mcs_load.proofs.Passed.{passed_test, both_passed, each_keeps, each_length, whole_number_passed, number_with_default_passed}

-- pairs of a list that is put together
module _ {A : Type 0} (R : A → A → Type 0) where
  pub pairs_cons : (x : A) (xs : List A) → All (R x) xs → AllPairs R xs → AllPairs R (x ∷ xs)
  pairs_cons x xs h p zero zero d less within = absurd (omega arith)
  pairs_cons x xs h p zero (suc j) d less within = h j d (omega arith)
  pairs_cons x xs h p (suc i) zero d less within = absurd (omega arith)
  pairs_cons x xs h p (suc i) (suc j) d less within = p i j d (omega arith) (omega arith)

  pairs_head : (x : A) (xs : List A) → AllPairs R (x ∷ xs) → All (R x) xs
  pairs_head x xs p = λ k d within. p 0 (suc k) d (omega arith) (omega arith)

  pairs_tail : (x : A) (xs : List A) → AllPairs R (x ∷ xs) → AllPairs R xs
  pairs_tail x xs p = λ i j d less within. p (suc i) (suc j) d (omega arith) (omega arith)

  pub pairs_append : (xs ys : List A) → AllPairs R xs → AllPairs R ys → All (λ x. All (R x) ys) xs → AllPairs R (xs ++ ys)
  pairs_append [] ys p q cross = q
  pairs_append (x ∷ xs) ys p q cross =
      pairs_cons x (xs ++ ys) (All-append (R x) xs ys (pairs_head x xs p) (All-head (λ y. All (R y) ys) x xs cross))
      (pairs_append xs ys (pairs_tail x xs p) q (All-tail (λ y. All (R y) ys) x xs cross))

  pub pairs_nil : AllPairs R []
  pairs_nil = λ i j d less within. absurd (omega arith)

-- numbers that rise from this one, below the period
abbrev pub Rises : ℕ → ℕ → List ℕ → Type 0
Rises least period [] = Unit {0}
Rises least period (n ∷ ns) = (least ≤ n) × (n < period) × Rises (n + 1) period ns

rises_push : (least period : ℕ) (ns : List ℕ) (x : ℕ) → Rises least period ns → fold (λ l n. n + 1) least ns ≤ x → x < period → Rises least period (ns ++ x ∷ [])
rises_push least period [] x h low high = (low, high, tt)
rises_push least period (n ∷ ns) x h low high = (h.0, h.1, rises_push (n + 1) period ns x h.2 low high)

offset_by : (least most : ℕ) (z : Option ℤ) → is_some z ≡ true → if_there (is_in_range least most) z ≡ true → (least ≤ number_or 0 z) × (number_or 0 z ≤ most)
offset_by least most None s h = cc
offset_by least most (Some (pos n)) s h =
    let p = and_parts (nat_le least n) (nat_le n most) h in
    (leb-true least n p.0, leb-true n most p.1)
offset_by least most (Some (negsuc n)) s h = cc

offset_passed : (number least period : ℕ) (at : At) (d : Data) → first_failed (offset number least period at d).tests ≡ None
    → (least ≤ (offset number least period at d).value) × ((offset number least period at d).value ≤ period - 1)
unfolding offset
offset_passed number least period at d h =
    let p = passed_test (is_some (as_integer d)) _ _ h in
    let q = passed_test (if_there (is_in_range least (period - 1)) (as_integer d)) _ _ p.1 in
    offset_by least (period - 1) (as_integer d) p.0 q.0

next_rises : (period : ℕ) (at : At) (earlier : List ℕ) (d : Data) → 1 ≤ period → Rises 0 period earlier → first_failed (next_offset period at earlier d).tests ≡ None
    → Rises 0 period (earlier ++ (next_offset period at earlier d).value ∷ [])
next_rises period at earlier d some so_far h =
    let p = offset_passed (suc (length earlier)) (least_after earlier) period at d h in
    let high = p.1 in
    rises_push 0 period earlier (next_offset period at earlier d).value so_far p.0 (omega arith)

few_passed : (at : At) (taken count : ℕ) → first_failed (few_offsets at taken count).tests ≡ None → taken + count ≤ 4096
unfolding few_offsets
few_passed at taken count h =
    let p = passed_test (nat_le count 1024 && nat_le (taken + count) 4096) _ _ h in
    leb-true (taken + count) 4096 (and_parts (nat_le count 1024) (nat_le (taken + count) 4096) p.0).1

offsets_passed : (taken period : ℕ) (at : At) (row : Members) → 1 ≤ period → first_failed (offsets taken period at row).tests ≡ None
    → Rises 0 period (offsets taken period at row).value × (taken + length (offsets taken period at row).value ≤ 4096)
unfolding offsets read_values
offsets_passed taken period at row some h =
    let values = (at_values at row).value in
    let p = both_passed (at_values at row).tests _ h in
    let q = both_passed (few_offsets at taken (item_count values)).tests _ p.1 in
    let few = few_passed at taken (item_count values) q.0 in
    let count = each_length (next_offset period at) values [] in
    (each_keeps (next_offset period at) (Rises 0 period) (λ earlier d so_far t. next_rises period at earlier d some so_far t) values [] tt q.1, omega (arith, few, count))

-- a beat of the source, not before this offset
abbrev IsBeatFrom : Pace → ℕ → Beat → Type 0
IsBeatFrom pace least beat =
    (beat.source ≡ pace.source) × (beat.period ≡ pace.period) × (pace.start + least ≤ beat.first) × (beat.first < pace.start + pace.period)

module _ (pace : Pace) (many : ℕ) where
  beat_from : (least n : ℕ) (share : Option ℕ) → least ≤ n → n < pace.period → All (IsBeatFrom pace least) (beat_of pace n share)
  beat_from least n None low high = All-nil (IsBeatFrom pace least)
  beat_from least n (Some count) low high =
      All-cons (IsBeatFrom pace least) (record { source = pace.source; first = pace.start + n; period = pace.period; count = count }) [] (refl, refl, omega arith, omega arith) (All-nil (IsBeatFrom pace least))

  later_beat : (least n : ℕ) → least ≤ n → (beat : Beat) → IsBeatFrom pace (n + 1) beat → IsBeatFrom pace least beat
  later_beat least n low beat h = (h.0, h.1, omega (arith, h.2), h.3)

  beats_all : (least k : ℕ) (ns : List ℕ) → Rises least pace.period ns → All (IsBeatFrom pace least) (beats_from pace many k ns)
  beats_all least k [] h = All-nil (IsBeatFrom pace least)
  beats_all least k (n ∷ ns) h =
      All-append (IsBeatFrom pace least) (beat_of pace n (share pace.count many k)) (beats_from pace many (suc k) ns) (beat_from least n (share pace.count many k) h.0 h.1)
      (All-weaker (IsBeatFrom pace (n + 1)) (IsBeatFrom pace least) (later_beat least n h.0) (beats_from pace many (suc k) ns) (beats_all (n + 1) (suc k) ns h.2))

  do_precede : (n count : ℕ) (beat : Beat) → IsBeatFrom pace (n + 1) beat → DoPrecede (record { source = pace.source; first = pace.start + n; period = pace.period; count = count }) beat
  do_precede n count beat h = (omega (arith, h.0), λ e. (sym h.1, omega (arith, h.2), omega (arith, h.3)))

  beat_pairs : (n : ℕ) (share : Option ℕ) (rest : List Beat) → All (IsBeatFrom pace (n + 1)) rest → AllPairs DoPrecede rest → AllPairs DoPrecede (beat_of pace n share ++ rest)
  beat_pairs n None rest h p = p
  beat_pairs n (Some count) rest h p =
      let beat : Beat = record { source = pace.source; first = pace.start + n; period = pace.period; count = count } in
      pairs_cons DoPrecede beat rest (All-weaker (IsBeatFrom pace (n + 1)) (DoPrecede beat) (do_precede n count) rest h) p

  beats_pairs : (least k : ℕ) (ns : List ℕ) → Rises least pace.period ns → AllPairs DoPrecede (beats_from pace many k ns)
  beats_pairs least k [] h = pairs_nil DoPrecede
  beats_pairs least k (n ∷ ns) h =
      beat_pairs n (share pace.count many k) (beats_from pace many (suc k) ns) (beats_all (n + 1) (suc k) ns h.2) (beats_pairs (n + 1) (suc k) ns h.2)

  one_beat : (n : ℕ) (share : Option ℕ) → length (beat_of pace n share) ≤ 1
  one_beat n None = omega arith
  one_beat n (Some count) = omega arith

  beats_few : (k : ℕ) (ns : List ℕ) → length (beats_from pace many k ns) ≤ length ns
  beats_few k [] = omega arith
  beats_few k (n ∷ ns) =
      omega (arith, length-append (beat_of pace n (share pace.count many k)) (beats_from pace many (suc k) ns), one_beat n (share pace.count many k), beats_few (suc k) ns)

-- a beat of the source with this number, within its limits
abbrev pub IsBeatOf : ℕ → Beat → Type 0
IsBeatOf number beat = (beat.source ≡ number) × (beat.first ≤ 2 ^ 41) × (1 ≤ beat.period) × (beat.period ≤ 2 ^ 40)

pub record AreDates (number taken : ℕ) (dates : Dates) : Type 0 where
  pub each : All (IsBeatOf number) dates.beats
  pub pairs : AllPairs DoPrecede dates.beats
  pub few : length dates.beats ≤ dates.many
  pub room : taken + dates.many ≤ 4096

within_limits : (pace : Pace) → pace.start ≤ 2 ^ 40 → 1 ≤ pace.period → pace.period ≤ 2 ^ 40 → (beat : Beat) → IsBeatFrom pace 0 beat → IsBeatOf pace.source beat
within_limits pace start some period beat h = (h.0, omega (arith, h.3), omega (arith, h.1), omega (arith, h.1))

pub dates_passed : (number taken : ℕ) (at : At) (row : Members) → first_failed (read_dates number taken at row).tests ≡ None → AreDates number taken (read_dates number taken at row).value
unfolding read_dates
dates_passed number taken at row h =
    let period = whole_number at key.Period 1 (2 ^ 40) row in
    let start = number_with_default at key.Start 0 (2 ^ 40) 0 row in
    let count = number_with_default at key.Count 0 (2 ^ 40) 0 row in
    let ns = offsets taken period.value at row in
    let p = both_passed period.tests _ h in
    let q = both_passed start.tests _ p.1 in
    let r = both_passed count.tests _ q.1 in
    let s = both_passed ns.tests [] r.1 in
    let periods = whole_number_passed at key.Period 1 (2 ^ 40) row (omega arith) p.0 in
    let starts = number_with_default_passed at key.Start 0 (2 ^ 40) 0 row (omega arith) (omega arith) q.0 in
    let rises = offsets_passed taken period.value at row periods.0 s.0 in
    let pace : Pace = record { source = number; start = start.value; period = period.value; count = count.value } in
    let many = length ns.value in
    record {
      each = All-weaker (IsBeatFrom pace 0) (IsBeatOf number) (within_limits pace starts.1 periods.0 periods.1) (beats_from pace many 0 ns.value) (beats_all pace many 0 0 ns.value rises.0);
      pairs = beats_pairs pace many 0 0 ns.value rises.0;
      few = beats_few pace many 0 ns.value;
      room = rises.1;
    }
