-- Counts by number, and more of them for one.
use Rattle.std.proofs.Common.{◌≡◌, ◌≢◌, ℕ, ◌+◌, ◌-◌, ◌^◌, ◌<◌, ◌≤◌, min, ◌⊎◌, inl, inr, Bool, true, false, eqb, cond, List, length, get_or, set, map, replicate, Option, Some, refl, sym, ap, ◌∙◌, arith}
use Rattle.std.specs.List.{range_with_len}
use Rattle.std.proofs.Math.Nat.{zero-add}
use Rattle.std.proofs.lemmas.Bool.{cases_eq, eq-eqb, ne_eqb}
use Rattle.std.proofs.lemmas.List.{length-set, length-replicate, get_or-set_same, get_or-set_other, get_or-replicate}
use Rattle.std.proofs.lemmas.List.FromFn.{length-map-range_with_len, get_or-map-range_with_len, fill_by_all}
use Rattle.mcs_why.specs.Running.{is_thread}

at_number : (f : ℕ → ℕ) (n k : ℕ) → k < n → get_or (map f (range_with_len 0 n)) k 0 ≡ f k
at_number f n k h = get_or-map-range_with_len f 0 n k k 0 h (zero-add k)

pub same_numbers : (f g : ℕ → ℕ) (n : ℕ) → ((k : ℕ) → k < n → f k ≡ g k) → map f (range_with_len 0 n) ≡ map g (range_with_len 0 n)
same_numbers f g n each =
    fill_by_all g (map f (range_with_len 0 n)) n 0 (length-map-range_with_len f 0 n) (λ k h. at_number f n k h ∙ each k h)

set_number : (f g : ℕ → ℕ) (n y new : ℕ) → y < n → new ≡ g y → ((k : ℕ) → k < n → k ≢ y → f k ≡ g k)
    → set (map f (range_with_len 0 n)) y new ≡ map g (range_with_len 0 n)
set_number f g n y new has is others =
    fill_by_all g (set (map f (range_with_len 0 n)) y new) n 0 (length-set (map f (range_with_len 0 n)) y new ∙ length-map-range_with_len f 0 n) each
  where
    each : (k : ℕ) → k < n → get_or (set (map f (range_with_len 0 n)) y new) k 0 ≡ g k
    each k h = by (cases_eq k y)
      where
        by : (k ≡ y) ⊎ (k ≢ y) → get_or (set (map f (range_with_len 0 n)) y new) k 0 ≡ g k
        by (inl e) =
            ap (λ i. get_or (set (map f (range_with_len 0 n)) y new) i 0) e
            ∙ get_or-set_same (map f (range_with_len 0 n)) y new 0 (omega (arith, length-map-range_with_len f 0 n))
            ∙ is
            ∙ ap g (sym e)
        by (inr differ) = get_or-set_other (map f (range_with_len 0 n)) y k new 0 differ ∙ at_number f n k h ∙ others k h differ

-- more for one thread
abbrev pub with_more : Option ℕ → ℕ → (ℕ → ℕ) → ℕ → ℕ
with_more runner ticks before thread = cond (is_thread thread runner) ticks 0 + before thread

not_here : (b : Bool) (ticks n : ℕ) → b ≡ false → n ≡ cond b ticks 0 + n
not_here b ticks n e = sym (zero-add n) ∙ ap (λ (c : Bool). cond c ticks 0 + n) (sym e)

here : (b : Bool) (ticks n : ℕ) → b ≡ true → ticks + n ≡ cond b ticks 0 + n
here b ticks n e = ap (λ (c : Bool). cond c ticks 0 + n) (sym e)

other : (before : ℕ → ℕ) (y ticks k : ℕ) → k ≢ y → before k ≡ with_more (Some y) ticks before k
other before y ticks k differ = not_here (eqb y k) ticks (before k) (ne_eqb y k (λ e. differ (sym e)))

uncapped : (old new ticks n : ℕ) → old ≡ n → n + ticks < 2 ^ 64 → new ≡ min (old + ticks) (2 ^ 64 - 1) → new ≡ ticks + n
uncapped old new ticks n was small is = omega arith

pub counts-at : (before : ℕ → ℕ) (threads y ticks d old new : ℕ) (counts : List ℕ) → counts ≡ map before (range_with_len 0 threads)
    → y < length counts
    → ((thread : ℕ) → before thread + ticks < 2 ^ 64) → old ≡ get_or counts y d → new ≡ min (old + ticks) (2 ^ 64 - 1)
    → set counts y new ≡ map (with_more (Some y) ticks before) (range_with_len 0 threads)
counts-at before threads y ticks d old new counts e has small was is =
    let long : length counts ≡ threads = ap length e ∙ length-map-range_with_len before 0 threads in
    let read : old ≡ before y =
    was ∙ ap (λ xs. get_or xs y d) e ∙ get_or-map-range_with_len before 0 threads y y d (omega arith) (zero-add y)
    in
    ap (λ xs. set xs y new) e
    ∙ set_number before (with_more (Some y) ticks before) threads y new (omega arith)
    (uncapped old new ticks (before y) read (small y) is ∙ here (eqb y y) ticks (before y) (eq-eqb y y refl))
    (λ k h differ. other before y ticks k differ)

-- if there is no such thread
pub counts-past : (before : ℕ → ℕ) (threads y ticks : ℕ) (counts : List ℕ) → counts ≡ map before (range_with_len 0 threads) → length counts ≤ y
    → counts ≡ map (with_more (Some y) ticks before) (range_with_len 0 threads)
counts-past before threads y ticks counts e past =
    let long : length counts ≡ threads = ap length e ∙ length-map-range_with_len before 0 threads in
    e ∙ same_numbers before (with_more (Some y) ticks before) threads (λ k h. other before y ticks k (λ same. omega arith))

-- before the first row
pub counts-first : (threads : ℕ) → replicate {A = ℕ} threads 0 ≡ map (λ thread. 0) (range_with_len 0 threads)
counts-first threads =
    fill_by_all (λ thread. 0) (replicate threads 0) threads 0 (length-replicate threads 0) (λ k h. get_or-replicate threads k 0 0 h)

-- the count of a thread
pub count_of : (f : ℕ → ℕ) (threads y d old : ℕ) (counts : List ℕ) → counts ≡ map f (range_with_len 0 threads) → y < length counts
    → old ≡ get_or counts y d
    → old ≡ f y
count_of f threads y d old counts e has was =
    let long : length counts ≡ threads = ap length e ∙ length-map-range_with_len f 0 threads in
    was ∙ ap (λ xs. get_or xs y d) e ∙ get_or-map-range_with_len f 0 threads y y d (omega arith) (zero-add y)
