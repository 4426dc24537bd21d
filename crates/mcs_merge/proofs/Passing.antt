-- The first of the rows that all clocks have passed.
use Rattle.std.proofs.Common.{◌≡◌, ◌≢◌, ℕ, zero, suc, ◌+◌, ◌<◌, ◌≤◌, Bool, true, false, cond, List, [], ◌∷◌, ◌++◌, length, get_or, set, inl, inr, refl, sym, ap, ◌∙◌, append_assoc, arith}
use Rattle.std.specs.Prelude.{flat_map, ◌==◌}
use Rattle.std.specs.List.{range_with_len}
use Rattle.std.proofs.lemmas.Bool.{cases_eq}
use Rattle.std.proofs.lemmas.Bool.Decides.{nat_tests}
use Rattle.mcs_ticks.specs.declared.row.Row.{Row}
use Rattle.mcs_merge.specs.Merge.{rows_at, merged_before}
use Rattle.mcs_merge.specs.Merging.{least_clock}
use Rattle.mcs_merge.specs.stored.Parts.{AreAt}
use Rattle.mcs_merge.proofs.Merges.{flat_map-same}

-- a concatenation of empty parts is empty
pub flat_map-none : {A : Type 0} (f : ℕ → List A) (n a : ℕ) → ((i : ℕ) → a ≤ i → i < a + n → f i ≡ []) → flat_map f (range_with_len a n) ≡ []
flat_map-none f zero a h = refl
flat_map-none f (suc n) a h = rw (h a (omega arith) (omega arith)) (flat_map-none f n (a + 1) (λ i p q. h i (omega arith) (omega arith)))

-- .. and if one part has more at its start, and those before it are empty, so has the concatenation
pub flat_map-part : {A : Type 0} (f g : ℕ → List A) (xs : List A) (t n a : ℕ) → a ≤ t → t < a + n → ((i : ℕ) → i < t → f i ≡ []) → f t ≡ xs ++ g t → ((i : ℕ) → i ≢ t → f i ≡ g i) →
    flat_map f (range_with_len a n) ≡ xs ++ flat_map g (range_with_len a n)
flat_map-part f g xs t zero a l m none one same = absurd (omega arith)
flat_map-part {A} f g xs t (suc n) a l m none one same =
    elim (cases_eq a t) [
      | inl e ↦ here (f a) (g a) _ _ (ap f e ∙ one ∙ ap (λ i. xs ++ g i) (sym e)) (flat_map-same f g n (a + 1) (λ i p q. same i (omega arith)))
      | inr e ↦ later (f a) (g a) _ _ (none a (omega arith)) (sym (same a e) ∙ none a (omega arith)) (flat_map-part f g xs t n (a + 1) (omega arith) (omega arith) none one same)
    ]
  where
    here : (zs ys us vs : List A) → zs ≡ xs ++ ys → us ≡ vs → zs ++ us ≡ xs ++ (ys ++ vs)
    here zs ys us vs e i = rw (e, i) (append_assoc xs ys vs)

    later : (zs ys us vs : List A) → zs ≡ [] → ys ≡ [] → us ≡ xs ++ vs → zs ++ us ≡ xs ++ (ys ++ vs)
    later zs ys us vs e i k = rw (e, i, k)

pub head_same : (t : ℕ) (row : Row) (rows : List Row) → row.moment ≡ t → rows_at t (row ∷ rows) ≡ row ∷ rows_at t rows
head_same t row rows e = by (row.moment == t) refl
  where
    by : (b : Bool) → (row.moment == t) ≡ b → cond b (row ∷ rows_at t rows) (rows_at t rows) ≡ row ∷ rows_at t rows
    by true f = refl
    by false f = absurd (grind (arith, nat_tests))

pub head_apart : (t : ℕ) (row : Row) (rows : List Row) → t ≢ row.moment → rows_at t (row ∷ rows) ≡ rows_at t rows
head_apart t row rows e = by (row.moment == t) refl
  where
    by : (b : Bool) → (row.moment == t) ≡ b → cond b (row ∷ rows_at t rows) (rows_at t rows) ≡ rows_at t rows
    by true f = absurd (grind (arith, nat_tests))
    by false f = refl

-- no list has a row of this moment
pub none-at : (t : ℕ) (lists : List (List Row)) → ((d : ℕ) → d < length lists → rows_at t (get_or lists d []) ≡ []) → flat_map (rows_at t) lists ≡ []
none-at t [] h = refl
none-at t (rows ∷ lists) h = rw (h 0 (omega arith)) (none-at t lists (λ d l. h (suc d) (omega arith)))

-- rows of one moment in front of others
at-part : (t : ℕ) (now rest : List Row) → AreAt t now → rows_at t (now ++ rest) ≡ now ++ rows_at t rest
at-part t [] rest h = refl
at-part t (row ∷ now) rest h = head_same t row (now ++ rest) h.0 ∙ ap (λ (rows : List Row). row ∷ rows) (at-part t now rest h.1)

pub apart-part : (t u : ℕ) (now rest : List Row) → AreAt u now → t ≢ u → rows_at t (now ++ rest) ≡ rows_at t rest
apart-part t u [] rest h m = refl
apart-part t u (row ∷ now) rest h m = head_apart t row (now ++ rest) (let is = h.0 in omega arith) ∙ apart-part t u now rest h.1 m

-- the rows of a moment begin with a list's first rows of it, if no earlier list has one
first-at : (t : ℕ) (lists : List (List Row)) (c : ℕ) (now rest : List Row) → c < length lists → get_or lists c [] ≡ now ++ rest → AreAt t now →
    ((d : ℕ) → d < c → rows_at t (get_or lists d []) ≡ []) → flat_map (rows_at t) lists ≡ now ++ flat_map (rows_at t) (set lists c rest)
first-at t [] c now rest l e m h = absurd (omega arith)
first-at t (xs ∷ lists) zero now rest l e m h =
    ap (λ us. us ++ flat_map (rows_at t) lists) (ap (rows_at t) e ∙ at-part t now rest m) ∙ append_assoc now (rows_at t rest) (flat_map (rows_at t) lists)
first-at t (xs ∷ lists) (suc c) now rest l e m h =
    rw (h 0 (omega arith)) (first-at t lists c now rest (omega arith) e m (λ d k. h (suc d) (omega arith)))

-- of another moment nothing changes
other-at : (t u : ℕ) (lists : List (List Row)) (c : ℕ) (now rest : List Row) → get_or lists c [] ≡ now ++ rest → AreAt u now → t ≢ u →
    flat_map (rows_at t) lists ≡ flat_map (rows_at t) (set lists c rest)
other-at t u [] c now rest e m n = refl
other-at t u (xs ∷ lists) zero now rest e m n = ap (λ us. us ++ flat_map (rows_at t) lists) (ap (rows_at t) e ∙ apart-part t u now rest m n)
other-at t u (xs ∷ lists) (suc c) now rest e m n = ap (λ us. rows_at t xs ++ us) (other-at t u lists c now rest e m n)

-- the first rows of a list, all of one moment, come first, if no row is earlier and no earlier list
-- has one of that moment
pub merged-part : (end t : ℕ) (lists : List (List Row)) (c : ℕ) (now rest : List Row) → c < length lists → get_or lists c [] ≡ now ++ rest → AreAt t now → t < end →
    ((i : ℕ) → i < t → flat_map (rows_at i) lists ≡ []) → ((d : ℕ) → d < c → rows_at t (get_or lists d []) ≡ []) →
    merged_before end lists ≡ now ++ merged_before end (set lists c rest)
merged-part end t lists c now rest l e at m before none =
    flat_map-part (λ t. flat_map (rows_at t) lists) (λ t. flat_map (rows_at t) (set lists c rest)) now t end 0 (omega arith) (omega arith)
    before (first-at t lists c now rest l e at none) (λ i k. other-at i t lists c now rest e at k)

pub least-of : (clocks : List ℕ) (d : ℕ) → d < length clocks → least_clock clocks ≤ get_or clocks d 0
least-of [] d l = absurd (omega arith)
least-of (clock ∷ []) zero l = omega arith
least-of (clock ∷ []) (suc d) l = absurd (omega arith)
least-of (clock ∷ other ∷ clocks) zero l = omega arith
least-of (clock ∷ other ∷ clocks) (suc d) l = omega (arith, least-of (other ∷ clocks) d (omega arith))
