-- Counts by number, and one more at one of them.
use Rattle.std.proofs.Common.{◌≡◌, ◌≢◌, ℕ, ◌+◌, ◌-◌, ◌^◌, ◌<◌, ◌≤◌, min, ◌⊎◌, inl, inr, Bool, true, false, eqb, cond, List, length, get_or, set, map, replicate, Option, Some, None, refl, sym, ap, ◌∙◌, arith}
use Rattle.std.specs.List.{range_with_len}
use Rattle.std.proofs.Math.Nat.{zero-add}
use Rattle.std.proofs.lemmas.Bool.{cases_eq, eq-eqb, ne_eqb}
use Rattle.std.proofs.lemmas.List.{length-set, length-replicate, get_or-set_same, get_or-set_other, get_or-replicate}
use Rattle.std.proofs.lemmas.List.FromFn.{length-map-range_with_len, get_or-map-range_with_len, fill_by_all}
use Rattle.mcs_ticks.specs.Capped.{capped}
use Rattle.mcs_table.specs.Signals.{is_note}
use Rattle.mcs_table.specs.Table.{counts_of}

at_number : (f : ℕ → ℕ) (n k : ℕ) → k < n → get_or (map f (range_with_len 0 n)) k 0 ≡ f k
at_number f n k h = get_or-map-range_with_len f 0 n k k 0 h (zero-add k)

same_numbers : (f g : ℕ → ℕ) (n : ℕ) → ((k : ℕ) → k < n → f k ≡ g k) → map f (range_with_len 0 n) ≡ map g (range_with_len 0 n)
same_numbers f g n each =
    fill_by_all g (map f (range_with_len 0 n)) n 0 (length-map-range_with_len f 0 n) (λ k h. at_number f n k h ∙ each k h)

set_number : (f g : ℕ → ℕ) (n y new : ℕ) → y < n → new ≡ g y → ((k : ℕ) → k < n → k ≢ y → f k ≡ g k)
    → set (map f (range_with_len 0 n)) y new ≡ map g (range_with_len 0 n)
set_number f g n y new has is others =
    fill_by_all g (set (map f (range_with_len 0 n)) y new) n 0 (length-set (map f (range_with_len 0 n)) y new ∙ length-map-range_with_len f 0 n) each
  where
    each : (k : ℕ) → k < n → get_or (set (map f (range_with_len 0 n)) y new) k 0 ≡ g k
    each k h = by (cases_eq k y)
      where
        by : (k ≡ y) ⊎ (k ≢ y) → get_or (set (map f (range_with_len 0 n)) y new) k 0 ≡ g k
        by (inl e) =
            ap (λ i. get_or (set (map f (range_with_len 0 n)) y new) i 0) e
            ∙ get_or-set_same (map f (range_with_len 0 n)) y new 0 (omega (arith, length-map-range_with_len f 0 n))
            ∙ is
            ∙ ap g (sym e)
        by (inr differ) = get_or-set_other (map f (range_with_len 0 n)) y k new 0 differ ∙ at_number f n k h ∙ others k h differ

-- one more is counted, or as many as are given
pub capped_more : (x n : ℕ) → x ≡ capped n → min (x + 1) (2 ^ 64 - 1) ≡ capped (1 + n)
capped_more x n e = omega arith

-- the count if this notification is named
abbrev pub more : Option ℕ → (ℕ → ℕ) → ℕ → ℕ
more place before note = cond (is_note note place) 1 0 + before note

not_here : (b : Bool) (n : ℕ) → b ≡ false → capped n ≡ capped (cond b 1 0 + n)
not_here b n e = ap capped (sym (zero-add n)) ∙ ap (λ (c : Bool). capped (cond c 1 0 + n)) (sym e)

here : (b : Bool) (n : ℕ) → b ≡ true → capped (1 + n) ≡ capped (cond b 1 0 + n)
here b n e = ap (λ (c : Bool). capped (cond c 1 0 + n)) (sym e)

other : (before : ℕ → ℕ) (y k : ℕ) → k ≢ y → capped (before k) ≡ capped (more (Some y) before k)
other before y k differ = not_here (eqb y k) (before k) (ne_eqb y k (λ e. differ (sym e)))

-- one more at a notification that the system has
pub counts-at : (before : ℕ → ℕ) (notes y d old new : ℕ) (counts : List ℕ) → counts ≡ counts_of before notes → y < length counts
    → old ≡ get_or counts y d → new ≡ min (old + 1) (2 ^ 64 - 1) → set counts y new ≡ counts_of (more (Some y) before) notes
counts-at before notes y d old new counts e has was is =
    let long : length counts ≡ notes = ap length e ∙ length-map-range_with_len (λ k. capped (before k)) 0 notes in
    let read : old ≡ capped (before y) =
    was ∙ ap (λ xs. get_or xs y d) e ∙ get_or-map-range_with_len (λ k. capped (before k)) 0 notes y y d (omega arith) (zero-add y)
    in
    ap (λ xs. set xs y new) e
    ∙ set_number (λ k. capped (before k)) (λ k. capped (more (Some y) before k)) notes y new (omega arith)
    (is ∙ capped_more old (before y) read ∙ here (eqb y y) (before y) (eq-eqb y y refl))
    (λ k h differ. other before y k differ)

-- at one that it does not have
pub counts-past : (before : ℕ → ℕ) (notes y : ℕ) (counts : List ℕ) → counts ≡ counts_of before notes → length counts ≤ y
    → counts ≡ counts_of (more (Some y) before) notes
counts-past before notes y counts e past =
    let long : length counts ≡ notes = ap length e ∙ length-map-range_with_len (λ k. capped (before k)) 0 notes in
    e ∙ same_numbers (λ k. capped (before k)) (λ k. capped (more (Some y) before k)) notes (λ k h. other before y k (λ same. omega arith))

-- at none
pub counts-none : (before : ℕ → ℕ) (notes : ℕ) → counts_of before notes ≡ counts_of (more None before) notes
counts-none before notes =
    same_numbers (λ k. capped (before k)) (λ k. capped (more None before k)) notes (λ k h. not_here false (before k) refl)

-- before the first row
pub counts-first : (notes : ℕ) → replicate notes 0 ≡ counts_of (λ note. 0) notes
counts-first notes =
    fill_by_all (λ note. capped 0) (replicate notes 0) notes 0 (length-replicate notes 0) (λ k h. get_or-replicate notes k 0 0 h)

-- what is kept of a notification
pub counted_at : (count : ℕ → ℕ) (notes y d old : ℕ) (counts : List ℕ) → counts ≡ counts_of count notes → y < length counts
    → old ≡ get_or counts y d → (y < notes) × (old ≡ capped (count y))
counted_at count notes y d old counts e has was =
    let long : length counts ≡ notes = ap length e ∙ length-map-range_with_len (λ k. capped (count k)) 0 notes in (
      omega arith,
      was ∙ ap (λ xs. get_or xs y d) e ∙ get_or-map-range_with_len (λ k. capped (count k)) 0 notes y y d (omega arith) (zero-add y),
    )

pub length-counts : (count : ℕ → ℕ) (notes : ℕ) (counts : List ℕ) → counts ≡ counts_of count notes → length counts ≡ notes
length-counts count notes counts e = ap length e ∙ length-map-range_with_len (λ k. capped (count k)) 0 notes
