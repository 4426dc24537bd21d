-- What no row does from some moment on no row of the first period does.
use Rattle.std.proofs.Common.{◌≡◌, ℕ, zero, suc, ◌+◌, ◌<◌, ◌≤◌, Bool, true, false, ◌||◌, List, [], ◌∷◌, ◌++◌, length, map, refl, sym, ap, subst, ◌∙◌, append_assoc, arith}
use Rattle.std.specs.Prelude.{drop, flat_map}
use Rattle.std.specs.List.{range_with_len, AllByRecursion, list_any}
use Rattle.std.proofs.Math.Seq.{drop-append_seam}
use Rattle.mcs_ticks.specs.declared.row.Row.{Row}
use Rattle.mcs_ticks.specs.declared.row.What.{What}
use Rattle.mcs_system.specs.System.{System}
use Rattle.mcs_system.specs.WellFormed.{IsWellFormed}
use Rattle.mcs_core.specs.Turn.{stamped}
use Rattle.mcs_core.specs.Clock.{clock, turn_of, rows_of}
use Rattle.mcs_core.proofs.Clock.{rows-clock}
use Rattle.mcs_laws.proofs.Histories.{takes-time}
use Rattle.mcs_ever.specs.Later.{Shift, later_what}
use Rattle.mcs_ever.specs.Recurs.{Shifts, shift_of, Recurs}
use Rattle.mcs_ever.specs.laws.Home.{IsOfOwn}
use Rattle.mcs_ever.proofs.Home.{rows-of-own}
use Rattle.mcs_ever.proofs.Worlds.{rows-again}
use Rattle.mcs_ever_found.specs.Period.{whats, done_in_period}
use Rattle.mcs_ever_found.specs.laws.Repeats.{rows_at}
use Rattle.mcs_ever_found.proofs.Alike.{at}
use Rattle.mcs_ever_found.proofs.Carried.{all-map}

append-nil : {A : Type 0} (xs : List A) → xs ++ [] ≡ xs
append-nil [] = refl
append-nil (x ∷ xs) = ap (λ rest. x ∷ rest) (append-nil xs)

pub both-all : (P : Row → Type 0) (xs ys : List Row) → AllByRecursion P xs → AllByRecursion P ys → AllByRecursion P (xs ++ ys)
both-all P [] ys g h = h
both-all P (r ∷ xs) ys g h = (g.0, both-all P xs ys g.1 h)

any-none : (test : What → Bool) (rows : List Row) → AllByRecursion (λ (r : Row). test r.what ≡ false) rows → list_any test (whats rows) ≡ false
any-none test [] h = refl
any-none test (r ∷ rows) h = ap (λ b. b || list_any test (whats rows)) h.0 ∙ any-none test rows h.1

module _ (P : Row → Type 0) where
  pub stamps : (c t : ℕ) (rows : List What) → AllByRecursion (λ what. P (at t c what)) rows → AllByRecursion P (stamped c t rows)
  stamps c t [] h = tt
  stamps c t (what ∷ rows) h = (h.0, stamps c t rows h.1)

  pub of-all : (f : ℕ → List Row) (n a : ℕ) → ((c : ℕ) → c < a + n → AllByRecursion P (f c)) → AllByRecursion P (flat_map f (range_with_len a n))
  of-all f zero a h = tt
  of-all f (suc n) a h =
      both-all P (f a) (flat_map f (range_with_len (a + 1) n)) (h a (omega arith)) (of-all f n (a + 1) (λ c l. h c (omega (arith, l))))

module _ (system : System) (well : IsWellFormed system) (from : ℕ) where
  -- the rows of n moments
  abbrev pub told : ℕ → List Row
  told zero = []
  told (suc n) = told n ++ rows_at system (from + n)

  pub told-rows : (n : ℕ) → (clock system (from + n)).rows ≡ (clock system from).rows ++ told n
  told-rows zero =
      let e : from + 0 ≡ from = omega arith in
      ap (λ t. (clock system t).rows) e ∙ sym (append-nil (clock system from).rows)
  told-rows (suc n) =
      let e : from + suc n ≡ suc (from + n) = omega arith in
      ap (λ t. (clock system t).rows) e ∙ rows-clock system (takes-time system well) (from + n)
      ∙ ap (λ rows. rows ++ rows_at system (from + n)) (told-rows n)
      ∙ append_assoc (clock system from).rows (told n) (rows_at system (from + n))

  pub done-told : (by : ℕ) → done_in_period system by from ≡ whats (told by)
  done-told by =
      ap (λ rows. whats (drop (length (clock system from).rows) rows)) (told-rows by)
      ∙ ap whats (drop-append_seam (clock system from).rows (told by))

  told-all : (P : Row → Type 0) (n : ℕ)
      → ((t c : ℕ) → from ≤ t → t < from + n → c < system.cores → AllByRecursion (λ what. P (at t c what)) (turn_of system c t).rows)
      → AllByRecursion P (told n)
  told-all P zero h = tt
  told-all P (suc n) h =
      both-all P (told n) (rows_at system (from + n)) (told-all P n (λ t c l m known. h t c l (omega (arith, m)) known))
      (of-all P (λ c. rows_of system c (from + n)) system.cores 0
      (λ c known. stamps P c (from + n) (turn_of system c (from + n)).rows (h (from + n) c (omega arith) (omega arith) (omega (arith, known)))))

-- a test that does not depend on the time, and that no row of another core passes
module _ (system : System) (group : ℕ → Bool) (shifts : Shifts) (from : ℕ) (well : IsWellFormed system) (recurs : Recurs system group shifts from)
    (test : What → Bool) (timeless : (shift : Shift) (what : What) → test (later_what shift what) ≡ test what)
    (away : (c : ℕ) (what : What) → group c ≡ false → IsOfOwn system c what → test what ≡ false) where
  abbrev Fails : List What → Type 0
  Fails rows = AllByRecursion (λ what. test what ≡ false) rows

  earlier : (shift : Shift) (rows : List What) → Fails (map (later_what shift) rows) → Fails rows
  earlier shift [] h = tt
  earlier shift (what ∷ rows) h = (sym (timeless shift what) ∙ h.0, earlier shift rows h.1)

  module _ (g : ℕ) (none : (t c : ℕ) → g ≤ t → c < system.cores → AllByRecursion (λ what. test what ≡ false) (turn_of system c t).rows) where
    back : (n t c : ℕ) → g ≤ t + n → from ≤ t → c < system.cores → Fails (turn_of system c t).rows
    back zero t c l m known = none t c (omega (arith, l)) known
    back (suc n) t c l m known =
        by (group c) refl (back n (t + shifts.by) c (let some = recurs.some in omega (arith, l, some)) (omega (arith, m)) known)
      where
        by : (b : Bool) → group c ≡ b → Fails (turn_of system c (t + shifts.by)).rows → Fails (turn_of system c t).rows
        by true own h =
            earlier (shift_of shifts c) (turn_of system c t).rows
            (subst Fails (rows-again system group shifts from well recurs t c m known own) h)
        by false other h =
            all-map (IsOfOwn system c) (λ what. test what ≡ false) (λ what o. away c what other o) (turn_of system c t).rows (rows-of-own system well c t known)

    -- none does so in the first period
    pub not-in-period : list_any test (done_in_period system shifts.by from) ≡ false
    not-in-period =
        ap (list_any test) (done-told system well from shifts.by)
        ∙ any-none test (told system well from shifts.by)
        (told-all system well from (λ (r : Row). test r.what ≡ false) shifts.by (λ t c l m known. back g t c (omega arith) l known))
