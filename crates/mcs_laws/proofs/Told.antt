-- The charges that the rows of a schedule tell are those of the turns.
use Rattle.std.proofs.Common.{◌≡◌, ◌≢◌, ℕ, zero, suc, ◌+◌, ◌-◌, ◌<◌, ◌≤◌, ◌⊎◌, inl, inr, Bool, true, false, cond, List, [], ◌∷◌, ◌++◌, map, min, refl, sym, ap, ◌∙◌, append-nil, arith}
use Rattle.std.specs.Prelude.{flat_map, ◌==◌, ◌&&◌, nat_lt, nat_le}
use Rattle.std.specs.List.{range_with_len}
use Rattle.std.proofs.lemmas.Bool.{cases_lt}
use Rattle.std.proofs.lemmas.Bool.Decides.{nat_tests}
use Rattle.std.proofs.lemmas.List.Concat.{flat_map-append}
use Rattle.mcs_ticks.specs.declared.row.Row.{Row}
use Rattle.mcs_ticks.specs.declared.row.What.{What}
use Rattle.mcs_system.specs.System.{System, no_context}
use Rattle.mcs_system.specs.WellFormed.{IsWellFormed}
use Rattle.mcs_core.specs.Clock.{clock, turn_of, rows_of}
use Rattle.mcs_laws.specs.Turns.{cores, RowsAreOfTurns}
use Rattle.mcs_laws.specs.Histories as told
use Rattle.mcs_laws.specs.Slices.{charges_from, charge_in, SchedulesTellCharges}
use Rattle.mcs_laws.proofs.Ranges.{flat_map-range-more}
use Rattle.mcs_core.proofs.Clock.{rows-clock}
use Rattle.mcs_laws.proofs.Histories.{takes-time}

module _ (system : System) (x from moments : ℕ) where
  abbrev home : ℕ
  home = told.home_of system x

  abbrev past : ℕ
  past = from + moments

  abbrev tells : Row → List ℕ
  tells row = charge_in system x from moments row

  -- the rows of one core's turn
  abbrev counted : ℕ → ℕ → Bool
  counted c t = (c == home) && nat_le from t && nat_lt t past

  of-turn : (c t : ℕ) (whats : List What) → flat_map tells (map (λ what. record { moment = t; core = c; what = what }) whats) ≡ cond (counted c t) (told.charges_told system x whats) []
  of-turn c t [] = by (counted c t) []
    where
      by : (b : Bool) (ks : List ℕ) → ks ≡ cond b ks ks
      by true ks = refl
      by false ks = refl
  of-turn c t (what ∷ whats) = ap (λ ks. tells (record { moment = t; core = c; what = what }) ++ ks) (of-turn c t whats) ∙ by (counted c t)
    where
      by : (b : Bool) → cond b (told.charge_told system x what) [] ++ cond b (told.charges_told system x whats) [] ≡ cond b (told.charges_told system x (what ∷ whats)) []
      by true = refl
      by false = refl

  -- those of all cores at a moment: only the home of the context emits rows of it
  abbrev at-home : ℕ → List ℕ
  at-home t = cond (nat_le from t && nat_lt t past) (told.charges_at system x t) []

  elsewhere : (c t : ℕ) → c ≢ home → flat_map tells (rows_of system c t) ≡ []
  elsewhere c t e = of-turn c t (turn_of system c t).rows ∙ ap (λ b. cond (b && nat_le from t && nat_lt t past) (told.charges_told system x (turn_of system c t).rows) []) (differs c home e)
    where
      differs : (a b : ℕ) → a ≢ b → (a == b) ≡ false
      differs a b e = grind (arith, nat_tests)

  here : (c t : ℕ) → c ≡ home → flat_map tells (rows_of system c t) ≡ at-home t
  here c t e =
      ap (λ k. flat_map tells (rows_of system k t)) e ∙ of-turn home t (turn_of system home t).rows
      ∙ ap (λ b. cond (b && nat_le from t && nat_lt t past) (told.charges_at system x t) []) (itself home)
    where
      itself : (a : ℕ) → (a == a) ≡ true
      itself a = grind (arith, nat_tests)

  abbrev all-at : ℕ → List ℕ → List Row
  all-at t cs = flat_map (λ c. rows_of system c t) cs

  of-cores : (t : ℕ) (c : ℕ) (cs : List ℕ) → flat_map tells (all-at t (c ∷ cs)) ≡ flat_map tells (rows_of system c t) ++ flat_map tells (all-at t cs)
  of-cores t c cs = flat_map-append tells (rows_of system c t) (all-at t cs)

  none-past : (t n a : ℕ) → home < a → flat_map tells (all-at t (range_with_len a n)) ≡ []
  none-past t zero a l = refl
  none-past t (suc n) a l =
      of-cores t a (range_with_len (a + 1) n) ∙ ap (λ ks. ks ++ flat_map tells (all-at t (range_with_len (a + 1) n))) (elsewhere a t (λ e. omega (arith, e, l)))
      ∙ none-past t n (a + 1) (omega (arith, l))

  once : (t n a : ℕ) → a ≤ home → home < a + n → flat_map tells (all-at t (range_with_len a n)) ≡ at-home t
  once t zero a l m = absurd (omega (arith, l, m))
  once t (suc n) a l m = by (cases_lt a home) (once t n (a + 1))
    where
      by : (a < home) ⊎ (home ≤ a) → (a + 1 ≤ home → home < a + 1 + n → flat_map tells (all-at t (range_with_len (a + 1) n)) ≡ at-home t) →
          flat_map tells (all-at t (range_with_len a (suc n))) ≡ at-home t
      by (inl less) i =
          of-cores t a (range_with_len (a + 1) n) ∙ ap (λ ks. ks ++ flat_map tells (all-at t (range_with_len (a + 1) n))) (elsewhere a t (λ e. omega (arith, e, less)))
          ∙ i (omega (arith, less)) (omega (arith, m))
      by (inr reached) i =
          of-cores t a (range_with_len (a + 1) n) ∙ ap (λ ks. ks ++ flat_map tells (all-at t (range_with_len (a + 1) n))) (here a t (omega (arith, reached, l)))
          ∙ ap (λ ks. at-home t ++ ks) (none-past t n (a + 1) (omega (arith, reached))) ∙ append-nil (at-home t)

  module _ (rows-are : RowsAreOfTurns system) (on : home < system.cores) where
    -- the rows before a moment tell the charges of the moments that are counted
    abbrev so-far : ℕ → ℕ
    so-far t = min t past - from

    rows-before : (t : ℕ) → flat_map tells (clock system t).rows ≡ charges_from system x from (so-far t)
    rows-before zero = let e : 0 ≡ so-far 0 = omega arith in ap (charges_from system x from) e
    rows-before (suc t) =
        ap (flat_map tells) (rows-are t) ∙ flat_map-append tells (clock system t).rows (all-at t (cores system))
        ∙ both _ _ _ _ (rows-before t) (once t system.cores 0 (omega arith) (omega (arith, on)))
        ∙ by (nat_le from t) (nat_lt t past) refl refl
      where
        both : (ks js ls ms : List ℕ) → ks ≡ js → ls ≡ ms → ks ++ ls ≡ js ++ ms
        both ks js ls ms e f = cc

        begun : (n : ℕ) → nat_le from t ≡ true → nat_lt t past ≡ true → n ≡ so-far t → (from + n ≡ t) × (suc n ≡ so-far (suc t))
        begun n e f g = (grind (arith, nat_tests), grind (arith, nat_tests))

        same : nat_le from t && nat_lt t past ≡ false → so-far t ≡ so-far (suc t)
        same e = grind (arith, nat_tests)

        by : (a b : Bool) → nat_le from t ≡ a → nat_lt t past ≡ b →
            charges_from system x from (so-far t) ++ cond (a && b) (told.charges_at system x t) [] ≡ charges_from system x from (so-far (suc t))
        by true true e f =
            let h = begun (so-far t) e f refl in
            ap (λ m. charges_from system x from (so-far t) ++ told.charges_at system x m) (sym h.0)
            ∙ sym (flat_map-range-more (told.charges_at system x) (so-far t) from) ∙ ap (charges_from system x from) h.1
        by true false e f = append-nil (charges_from system x from (so-far t)) ∙ ap (charges_from system x from) (same (grind (arith, nat_tests)))
        by false b e f = append-nil (charges_from system x from (so-far t)) ∙ ap (charges_from system x from) (same (grind (arith, nat_tests)))

pub schedules-tell : (system : System) → IsWellFormed system → SchedulesTellCharges system
schedules-tell system well x from moments horizon known l =
    let e : min (suc horizon) (from + moments) - from ≡ moments = omega (arith, l) in
    rows-before system x from moments (rows-clock system (takes-time system well)) (well.contexts x no_context known).core (suc horizon)
    ∙ ap (charges_from system x from) e
