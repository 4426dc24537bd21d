-- The rows of the cores, each in order of its moments, merge into the schedule.
use Rattle.std.proofs.Common.{◌≡◌, ◌≢◌, ℕ, zero, suc, ◌+◌, ◌-◌, ◌<◌, ◌≤◌, Bool, true, false, cond, List, [], ◌∷◌, ◌++◌, map, refl, sym, ap, ◌∙◌, append-nil, arith}
use Rattle.std.specs.Prelude.{flat_map, ◌==◌, nat_lt, slice_index}
use Rattle.std.specs.List.{range_with_len}
use Rattle.std.proofs.lemmas.Bool.Decides.{nat_tests}
use Rattle.std.proofs.lemmas.List.Elements.{filter-append}
use Rattle.std.proofs.lemmas.List.Folds.{flat_map-map}
use Rattle.mcs_ticks.specs.declared.row.Row.{Row}
use Rattle.mcs_ticks.specs.declared.row.What.{What}
use Rattle.mcs_merge.specs.Merge.{rows_at, AreFrom, DoNotFall}
use Rattle.mcs_merge.specs.Merging.{AreOf, AreBefore, IsListOf}
use Rattle.mcs_merge.proofs.Joins.{AreFrom-earlier}
use Rattle.mcs_merge.proofs.Pushes.{AreUntil, DoNotFall-append}
use Rattle.mcs_merge.proofs.Merges.{merged-is, flat_map-same}
use Rattle.mcs_system.specs.System.{System, TakesTime}
use Rattle.mcs_core.specs.Clock as clocks
use Rattle.mcs_core.specs.Clock.{rows_of, schedule}
use Rattle.mcs_core.proofs.Clock.{rows-clock}
use Rattle.mcs_stretch.specs.laws.Merging as merging
use Rattle.mcs_stretch.specs.laws.Merging.{rows_of_cores, rows_until}
use Rattle.mcs_stretch.specs.Stretch.{rows_between}
use Rattle.mcs_stretch.proofs.Ranges.{flat_map-join}

-- all rows have this moment
abbrev pub AreAt : ℕ → List Row → Type 0
AreAt t [] = Unit {0}
AreAt t (row ∷ rows) = (row.moment ≡ t) × AreAt t rows

AreAt-append : (t : ℕ) (rows more : List Row) → AreAt t rows → AreAt t more → AreAt t (rows ++ more)
AreAt-append t [] more h k = k
AreAt-append t (row ∷ rows) more h k = (h.0, AreAt-append t rows more h.1 k)

pub AreAt-flat_map : (t : ℕ) (f : ℕ → List Row) → ((c : ℕ) → AreAt t (f c)) → (n a : ℕ) → AreAt t (flat_map f (range_with_len a n))
AreAt-flat_map t f h zero a = tt
AreAt-flat_map t f h (suc n) a = AreAt-append t (f a) (flat_map f (range_with_len (a + 1) n)) (h a) (AreAt-flat_map t f h n (a + 1))

pub AreAt-map : (t c : ℕ) (whats : List What) → AreAt t (map (λ what. record { moment = t; core = c; what = what }) whats)
AreAt-map t c [] = tt
AreAt-map t c (what ∷ whats) = (refl, AreAt-map t c whats)

from_at : (t : ℕ) (rows : List Row) → AreAt t rows → AreFrom t rows
from_at t [] h = tt
from_at t (row ∷ rows) h = (let e = h.0 in omega arith, from_at t rows h.1)

before_at : (t u : ℕ) (rows : List Row) → t < u → AreAt t rows → AreBefore u rows
before_at t u [] l h = tt
before_at t u (row ∷ rows) l h = (let e = h.0 in omega arith, before_at t u rows l h.1)

until_at : (t : ℕ) (rows : List Row) → AreAt t rows → AreUntil t rows
until_at t [] h = tt
until_at t (row ∷ rows) h = (let e = h.0 in omega arith, until_at t rows h.1)

order_at : (t : ℕ) (rows : List Row) → AreAt t rows → DoNotFall rows
order_at t [] h = tt
order_at t (row ∷ rows) h = (AreFrom-earlier row.moment t rows (let e = h.0 in omega arith) (from_at t rows h.1), order_at t rows h.1)

rows_at-same : (t : ℕ) (rows : List Row) → AreAt t rows → rows_at t rows ≡ rows
rows_at-same t [] h = refl
rows_at-same t (row ∷ rows) h = by (row.moment == t) refl (rows_at-same t rows h.1)
  where
    by : (b : Bool) → (row.moment == t) ≡ b → rows_at t rows ≡ rows → cond b (row ∷ rows_at t rows) (rows_at t rows) ≡ row ∷ rows
    by true e i = ap (λ xs. row ∷ xs) i
    by false e i = absurd (let f = h.0 in grind (arith, nat_tests))

rows_at-other : (t u : ℕ) (rows : List Row) → u ≢ t → AreAt u rows → rows_at t rows ≡ []
rows_at-other t u [] n h = refl
rows_at-other t u (row ∷ rows) n h = by (row.moment == t) refl (rows_at-other t u rows n h.1)
  where
    by : (b : Bool) → (row.moment == t) ≡ b → rows_at t rows ≡ [] → cond b (row ∷ rows_at t rows) (rows_at t rows) ≡ []
    by true e i =
        let f = h.0 in
        let g : row.moment ≡ t = grind (arith, nat_tests) in
        absurd (omega arith)
    by false e i = i

-- parts that each have the rows of one moment
module _ (f : ℕ → List Row) (at : (t : ℕ) → AreAt t (f t)) where
  pub from_parts : (n a b : ℕ) → b ≤ a → AreFrom b (flat_map f (range_with_len a n))
  from_parts zero a b l = tt
  from_parts (suc n) a b l =
      both (f a) (flat_map f (range_with_len (a + 1) n)) (AreFrom-earlier b a (f a) l (from_at a (f a) (at a))) (from_parts n (a + 1) b (omega arith))
    where
      both : (xs ys : List Row) → AreFrom b xs → AreFrom b ys → AreFrom b (xs ++ ys)
      both [] ys h k = k
      both (x ∷ xs) ys h k = (h.0, both xs ys h.1 k)

  pub before_parts : (n a b : ℕ) → a + n ≤ b → AreBefore b (flat_map f (range_with_len a n))
  before_parts zero a b l = tt
  before_parts (suc n) a b l =
      both (f a) (flat_map f (range_with_len (a + 1) n)) (before_at a b (f a) (omega arith) (at a)) (before_parts n (a + 1) b (omega arith))
    where
      both : (xs ys : List Row) → AreBefore b xs → AreBefore b ys → AreBefore b (xs ++ ys)
      both [] ys h k = k
      both (x ∷ xs) ys h k = (h.0, both xs ys h.1 k)

  pub order_parts : (n a : ℕ) → DoNotFall (flat_map f (range_with_len a n))
  order_parts zero a = tt
  order_parts (suc n) a =
      DoNotFall-append a (f a) (flat_map f (range_with_len (a + 1) n)) (order_at a (f a) (at a)) (until_at a (f a) (at a)) (order_parts n (a + 1)) (from_parts n (a + 1) a (omega arith))

  outside : (t n a : ℕ) → ((m : ℕ) → a ≤ m → m < a + n → m ≢ t) → rows_at t (flat_map f (range_with_len a n)) ≡ []
  outside t zero a h = refl
  outside t (suc n) a h =
      filter-append (λ row. row.moment == t) (f a) (flat_map f (range_with_len (a + 1) n))
      ∙ both _ _ (rows_at-other t a (f a) (h a (omega arith) (omega arith)) (at a)) (outside t n (a + 1) (λ m p q. h m (omega arith) (omega arith)))
    where
      both : (xs ys : List Row) → xs ≡ [] → ys ≡ [] → xs ++ ys ≡ []
      both xs ys e g = cc

  inside : (t n a : ℕ) → a ≤ t → t < a + n → rows_at t (flat_map f (range_with_len a n)) ≡ f t
  inside t zero a l h = absurd (omega arith)
  inside t (suc n) a l h =
      filter-append (λ row. row.moment == t) (f a) (flat_map f (range_with_len (a + 1) n)) ∙ by (a == t) refl (λ m. inside t n (a + 1) m (omega arith))
    where
      both : (xs ys us vs : List Row) → xs ≡ us → ys ≡ vs → xs ++ ys ≡ us ++ vs
      both xs ys us vs e g = cc

      same : a ≡ t → rows_at t (f a) ≡ f t
      same e = ap (λ m. rows_at t (f m)) e ∙ rows_at-same t (f t) (at t)

      rest : a ≡ t → rows_at t (flat_map f (range_with_len (a + 1) n)) ≡ []
      rest e = outside t n (a + 1) (λ m p q. omega arith)

      by : (b : Bool) → (a == t) ≡ b → (a + 1 ≤ t → rows_at t (flat_map f (range_with_len (a + 1) n)) ≡ f t) → rows_at t (f a) ++ rows_at t (flat_map f (range_with_len (a + 1) n)) ≡ f t
      by true e i =
          let g : a ≡ t = grind (arith, nat_tests) in
          both _ _ _ _ (same g) (rest g) ∙ append-nil (f t)
      by false e i =
          let g : a ≢ t = grind (arith, nat_tests) in
          both _ _ _ _ (rows_at-other t a (f a) g (at a)) (i (omega arith))

module _ (system : System) where
  row_moments : (c t : ℕ) → AreAt t (rows_of system c t)
  row_moments c t = AreAt-map t c (clocks.turn_of system c t).rows

  -- the rows of a core are in order of their moments
  pub order-between : (c a b : ℕ) → DoNotFall (rows_between system c a b)
  order-between c a b = order_parts (rows_of system c) (row_moments c) (b - a) a

  of-stamped : (c t : ℕ) (whats : List What) → AreOf c (map (λ what. record { moment = t; core = c; what = what }) whats)
  of-stamped c t [] = tt
  of-stamped c t (what ∷ whats) = (refl, of-stamped c t whats)

  of-between : (c n a : ℕ) → AreOf c (flat_map (rows_of system c) (range_with_len a n))
  of-between c zero a = tt
  of-between c (suc n) a =
      both (rows_of system c a) (flat_map (rows_of system c) (range_with_len (a + 1) n)) (of-stamped c a (clocks.turn_of system c a).rows) (of-between c n (a + 1))
    where
      both : (xs ys : List Row) → AreOf c xs → AreOf c ys → AreOf c (xs ++ ys)
      both [] ys h k = k
      both (x ∷ xs) ys h k = (h.0, both xs ys h.1 k)

  -- they are the core's, in order, before its clock, and at the first moment or later
  pub list-between : (c a b : ℕ) → a ≤ b → IsListOf c (rows_between system c a b) b
  list-between c a b l =
      record {
        of_core = of-between c (b - a) a;
        in_order = order-between c a b;
        before = before_parts (rows_of system c) (row_moments c) (b - a) a b (omega arith);
      }

  pub from-between : (c a b : ℕ) → AreFrom a (rows_between system c a b)
  from-between c a b = from_parts (rows_of system c) (row_moments c) (b - a) a a (omega arith)

  abbrev moment_rows : ℕ → List Row
  moment_rows t = flat_map (λ c. rows_of system c t) (range_with_len 0 system.cores)

  moment_moments : (t : ℕ) → AreAt t (moment_rows t)
  moment_moments t = AreAt-flat_map t (λ c. rows_of system c t) (λ c. row_moments c t) system.cores 0

  by_clock : TakesTime system → (n : ℕ) → (clocks.clock system n).rows ≡ flat_map moment_rows (range_with_len 0 n)
  by_clock takes_time zero = refl
  by_clock takes_time (suc n) =
      let e : n + 1 ≡ suc n = omega arith in
      let g : 0 + n ≡ n = omega arith in
      rows-clock system takes_time n ∙ ap (λ xs. xs ++ moment_rows n) (by_clock takes_time n)
      ∙ ap (λ xs. flat_map moment_rows (range_with_len 0 n) ++ xs) (sym (append-nil (moment_rows n)) ∙ ap (λ m. flat_map moment_rows (range_with_len m 1)) (sym g))
      ∙ flat_map-join moment_rows n 1 0 ∙ ap (λ m. flat_map moment_rows (range_with_len 0 m)) e

  all_none : (n a : ℕ) → flat_map {X = ℕ} {A = Row} (λ c. []) (range_with_len a n) ≡ []
  all_none zero a = refl
  all_none (suc n) a = all_none n (a + 1)

  at_each : (horizon t : ℕ) → rows_at t (flat_map moment_rows (range_with_len 0 (suc horizon))) ≡ flat_map (rows_at t) (rows_of_cores system horizon)
  at_each horizon t = by (nat_lt t (suc horizon)) refl ∙ sym (flat_map-map (rows_at t) (λ c. rows_between system c 0 (suc horizon)) (range_with_len 0 system.cores))
    where
      by : (u : Bool) → nat_lt t (suc horizon) ≡ u → rows_at t (flat_map moment_rows (range_with_len 0 (suc horizon))) ≡ flat_map (λ c. rows_at t (rows_between system c 0 (suc horizon))) (range_with_len 0 system.cores)
      by true e =
          let l : t < suc horizon = grind (arith, nat_tests) in
          inside moment_rows moment_moments t (suc horizon) 0 (omega arith) (omega arith)
          ∙ sym (flat_map-same (λ c. rows_at t (rows_between system c 0 (suc horizon))) (λ c. rows_of system c t) system.cores 0
          (λ c _ _. inside (rows_of system c) (row_moments c) t (suc horizon - 0) 0 (omega arith) (omega arith)))
      by false e =
          let l : suc horizon ≤ t = grind (arith, nat_tests) in
          outside moment_rows moment_moments t (suc horizon) 0 (λ m p q. omega arith)
          ∙ sym (flat_map-same (λ c. rows_at t (rows_between system c 0 (suc horizon))) (λ c. []) system.cores 0
          (λ c _ _. outside (rows_of system c) (row_moments c) t (suc horizon - 0) 0 (λ m p q. omega arith)) ∙ all_none system.cores 0)

  pub rows_merge : TakesTime system → merging.RowsMerge system
  rows_merge takes_time horizon =
      sym (merged-is (rows_of_cores system horizon) (flat_map moment_rows (range_with_len 0 (suc horizon)))
      (record { in_order = order_parts moment_rows moment_moments (suc horizon) 0; at_each = at_each horizon }))
      ∙ sym (by_clock takes_time (suc horizon))

  pub rows-so_far : TakesTime system → merging.RowsMergeSoFar system
  rows-so_far takes_time clks t h =
      flat_map-same (λ m. flat_map (rows_at m) (rows_until system clks)) moment_rows t 0 (λ m k l. at m (omega arith)) ∙ sym (by_clock takes_time t)
    where
      at : (m : ℕ) → m < t → flat_map (rows_at m) (rows_until system clks) ≡ moment_rows m
      at m l =
          flat_map-map (rows_at m) (λ c. rows_between system c 0 (slice_index clks c)) (range_with_len 0 system.cores)
          ∙ flat_map-same (λ c. rows_at m (rows_between system c 0 (slice_index clks c))) (λ c. rows_of system c m) system.cores 0
          (λ c i j. let u : t ≤ slice_index clks c = h c (omega arith) in
          inside (rows_of system c) (row_moments c) m (slice_index clks c - 0) 0 (omega arith) (omega arith))

  -- the rows from one moment to before another
  abbrev pub rows-later : ℕ → ℕ → List Row
  rows-later a b = flat_map moment_rows (range_with_len a (b - a))

  -- the clock's rows before a moment, and then those from it on
  pub clock-later : TakesTime system → (a b : ℕ) → a ≤ b → (clocks.clock system b).rows ≡ (clocks.clock system a).rows ++ rows-later a b
  clock-later takes_time a b l =
      let e : a + (b - a) ≡ b = omega arith in
      let g : 0 + a ≡ a = omega arith in
      by_clock takes_time b ∙ ap (λ m. flat_map moment_rows (range_with_len 0 m)) (sym e)
      ∙ sym (flat_map-join moment_rows a (b - a) 0) ∙ ap (λ m. flat_map moment_rows (range_with_len 0 a) ++ flat_map moment_rows (range_with_len m (b - a))) g
      ∙ ap (λ xs. xs ++ rows-later a b) (sym (by_clock takes_time a))

  pub clock-before : TakesTime system → (a : ℕ) → AreBefore a (clocks.clock system a).rows
  clock-before takes_time a = rw (by_clock takes_time a) (before_parts moment_rows moment_moments a 0 a (omega arith))

  pub later-from : (a b : ℕ) → AreFrom a (rows-later a b)
  later-from a b = from_parts moment_rows moment_moments (b - a) a a (omega arith)
