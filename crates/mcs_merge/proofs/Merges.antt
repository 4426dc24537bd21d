-- Rows in order of their moments that have each list's rows at each moment are the merged rows.
use Rattle.std.proofs.Common.{◌≡◌, ℕ, zero, suc, ◌+◌, ◌<◌, ◌≤◌, Bool, true, false, cond, List, [], ◌∷◌, ◌++◌, Vec, take, drop, append_assoc, refl, sym, ap, ◌∙◌, arith}
use Rattle.std.specs.Prelude.{flat_map, ◌==◌}
use Rattle.std.specs.List.{range_with_len}
use Rattle.std.specs.declared.alloc.Global.{Global}
use Rattle.std.proofs.lemmas.Bool.Decides.{nat_tests}
use Rattle.mcs_ticks.specs.declared.row.Row.{Row}
use Rattle.mcs_merge.specs.Lists.{rows_of_lists}
use Rattle.mcs_merge.specs.Merge.{rows_at, last_moment, last_of_all, merged, AreFrom, DoNotFall, AreJoined, AreMerged}
use Rattle.mcs_merge.proofs.Joins.{AreFrom-earlier, rows_at-later}

-- two lists of what is put together part by part
pub flat_map-same : {A : Type 0} (f g : ℕ → List A) (n a : ℕ) → ((i : ℕ) → a ≤ i → i < a + n → f i ≡ g i) → flat_map f (range_with_len a n) ≡ flat_map g (range_with_len a n)
flat_map-same f g zero a h = refl
flat_map-same {A} f g (suc n) a h = both _ _ _ _ (h a (omega arith) (omega arith)) (flat_map-same f g n (a + 1) (λ i p q. h i (omega arith) (omega arith)))
  where
    both : (xs ys us vs : List A) → xs ≡ ys → us ≡ vs → xs ++ us ≡ ys ++ vs
    both xs ys us vs e f = cc

-- if a list has no row of a moment, its tail has no such row
tail_none : (t : ℕ) (row : Row) (rows : List Row) → rows_at t (row ∷ rows) ≡ [] → rows_at t rows ≡ []
tail_none t row rows = by (row.moment == t)
  where
    by : (b : Bool) → cond b (row ∷ rows_at t rows) (rows_at t rows) ≡ [] → rows_at t rows ≡ []
    by true e = cc
    by false e = e

head_none : (t : ℕ) (row : Row) (rows : List Row) → row.moment ≡ t → rows_at t (row ∷ rows) ≡ [] → ⊥
head_none t row rows e = by (row.moment == t) refl
  where
    by : (b : Bool) → (row.moment == t) ≡ b → cond b (row ∷ rows_at t rows) (rows_at t rows) ≡ [] → ⊥
    by true f h = cc
    by false f h = grind (arith, nat_tests)

pub head_other : (t : ℕ) (row : Row) (rows : List Row) → row.moment < t → rows_at t (row ∷ rows) ≡ rows_at t rows
head_other t row rows l = by (row.moment == t) refl
  where
    by : (b : Bool) → (row.moment == t) ≡ b → cond b (row ∷ rows_at t rows) (rows_at t rows) ≡ rows_at t rows
    by true f = absurd (grind (arith, nat_tests))
    by false f = refl

head_same : (t : ℕ) (row : Row) (rows : List Row) → row.moment ≡ t → rows_at t (row ∷ rows) ≡ row ∷ rows_at t rows
head_same t row rows e = by (row.moment == t) refl
  where
    by : (b : Bool) → (row.moment == t) ≡ b → cond b (row ∷ rows_at t rows) (rows_at t rows) ≡ row ∷ rows_at t rows
    by true f = refl
    by false f = absurd (grind (arith, nat_tests))

-- rows in order of their moments are their rows moment by moment
pub by_moments : (rows : List Row) (n a : ℕ) → DoNotFall rows → AreFrom a rows → ((t : ℕ) → a + n ≤ t → rows_at t rows ≡ []) →
    flat_map (λ t. rows_at t rows) (range_with_len a n) ≡ rows
by_moments [] n a h k beyond = none n a
  where
    none : (n a : ℕ) → flat_map (λ t. rows_at t []) (range_with_len a n) ≡ []
    none zero a = refl
    none (suc n) a = none n (a + 1)
by_moments (row ∷ rows) n a h k beyond = from n a k.0 beyond (by_moments rows)
  where
    from : (n a : ℕ) → a ≤ row.moment → ((t : ℕ) → a + n ≤ t → rows_at t (row ∷ rows) ≡ []) →
        ((n a : ℕ) → DoNotFall rows → AreFrom a rows → ((t : ℕ) → a + n ≤ t → rows_at t rows ≡ []) → flat_map (λ t. rows_at t rows) (range_with_len a n) ≡ rows) →
        flat_map (λ t. rows_at t (row ∷ rows)) (range_with_len a n) ≡ row ∷ rows
    from zero a l beyond others = absurd (head_none row.moment row rows refl (beyond row.moment (omega arith)))
    from (suc n) a l beyond others =
        by (row.moment == a) refl (λ m. from n (a + 1) m (λ t p. beyond t (omega arith)) others)
      where
        rest : row.moment ≡ a → flat_map (λ t. rows_at t (row ∷ rows)) (range_with_len (a + 1) n) ≡ flat_map (λ t. rows_at t rows) (range_with_len (a + 1) n)
        rest e = flat_map-same (λ t. rows_at t (row ∷ rows)) (λ t. rows_at t rows) n (a + 1) (λ t p q. head_other t row rows (omega arith))

        all : row.moment ≡ a → flat_map (λ t. rows_at t rows) (range_with_len a (suc n)) ≡ rows
        all e = others (suc n) a h.1 (AreFrom-earlier a row.moment rows l h.0) (λ t p. tail_none t row rows (beyond t p))

        one : (xs ys us vs : List Row) → xs ≡ row ∷ us → ys ≡ vs → us ++ vs ≡ rows → xs ++ ys ≡ row ∷ rows
        one xs ys us vs e f g = rw (e, f) (ap (λ zs. row ∷ zs) g)

        by : (b : Bool) → (row.moment == a) ≡ b → (a + 1 ≤ row.moment → flat_map (λ t. rows_at t (row ∷ rows)) (range_with_len (a + 1) n) ≡ row ∷ rows) →
            rows_at a (row ∷ rows) ++ flat_map (λ t. rows_at t (row ∷ rows)) (range_with_len (a + 1) n) ≡ row ∷ rows
        by true e i =
            let f : row.moment ≡ a = grind (arith, nat_tests) in
            one (rows_at a (row ∷ rows)) (flat_map (λ t. rows_at t (row ∷ rows)) (range_with_len (a + 1) n)) (rows_at a rows) (flat_map (λ t. rows_at t rows) (range_with_len (a + 1) n))
            (head_same a row rows f) (rest f) (all f)
        by false e i =
            let f : a < row.moment = grind (arith, nat_tests) in
            let g : rows_at a (row ∷ rows) ≡ [] = rows_at-later a row.moment (row ∷ rows) f (omega arith, h.0) in
            rw g (i (omega arith))

-- past the greatest moment there is none
rows_at-past : (t : ℕ) (rows : List Row) → last_moment rows < t → rows_at t rows ≡ []
rows_at-past t [] l = refl
rows_at-past t (row ∷ rows) l = head_other t row rows (omega arith) ∙ rows_at-past t rows (omega arith)

pub all-past : (t : ℕ) (lists : List (List Row)) → last_of_all lists < t → flat_map (rows_at t) lists ≡ []
all-past t [] l = refl
all-past t (rows ∷ lists) l = rw (rows_at-past t rows (omega arith)) (all-past t lists (omega arith))

pub AreFrom-zero : (rows : List Row) → AreFrom 0 rows
AreFrom-zero [] = tt
AreFrom-zero (row ∷ rows) = (omega arith, AreFrom-zero rows)

pub merged-is : (lists : List (List Row)) (rows : List Row) → AreMerged lists rows → rows ≡ merged lists
merged-is lists rows h =
    sym (by_moments rows (suc (last_of_all lists)) 0 h.in_order (AreFrom-zero rows) (λ t l. h.at_each t ∙ all-past t lists (omega arith)))
    ∙ flat_map-same (λ t. rows_at t rows) (λ t. flat_map (rows_at t) lists) (suc (last_of_all lists)) 0 (λ t _ _. h.at_each t)

-- the rows of a moment in the lists before a place, and then of those from it on
split : (t n : ℕ) (lists : List (Vec Row Global)) →
    flat_map (rows_at t) (rows_of_lists (take n lists)) ++ flat_map (rows_at t) (rows_of_lists (drop n lists)) ≡ flat_map (rows_at t) (rows_of_lists lists)
split t zero lists = refl
split t (suc n) [] = refl
split t (suc n) (rows ∷ lists) =
    append_assoc (rows_at t rows.items) (flat_map (rows_at t) (rows_of_lists (take n lists))) (flat_map (rows_at t) (rows_of_lists (drop n lists)))
    ∙ ap (λ us. rows_at t rows.items ++ us) (split t n lists)

-- both parts of the lists, each merged and then joined, are the lists merged
pub halves-merged : (n : ℕ) (lists front back : List (Vec Row Global)) (first second left right rows : List Row) → front ≡ take n lists → back ≡ drop n lists →
    AreMerged (rows_of_lists front) first → AreMerged (rows_of_lists back) second → left ≡ first → right ≡ second → AreJoined left right rows → AreMerged (rows_of_lists lists) rows
halves-merged n lists front back first second left right rows e f h k l r j =
    record {
      in_order = j.in_order;
      at_each = λ t.
          j.at_each t
          ∙ both _ _ _ _ (ap (rows_at t) l ∙ h.at_each t ∙ ap (λ us. flat_map (rows_at t) (rows_of_lists us)) e)
          (ap (rows_at t) r ∙ k.at_each t ∙ ap (λ us. flat_map (rows_at t) (rows_of_lists us)) f)
          ∙ split t n lists;
    }
  where
    both : (xs ys us vs : List Row) → xs ≡ ys → us ≡ vs → xs ++ us ≡ ys ++ vs
    both xs ys us vs e f = cc
