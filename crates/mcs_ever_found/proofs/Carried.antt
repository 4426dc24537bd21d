-- A fact that each row keeps from some moment on holds before each moment from then on.
use Rattle.std.proofs.Common.{◌≡◌, ℕ, zero, suc, ◌+◌, ◌-◌, ◌<◌, ◌≤◌, List, [], ◌∷◌, ◌++◌, sym, subst, arith}
use Rattle.std.specs.Prelude.{flat_map}
use Rattle.std.specs.List.{range_with_len, AllByRecursion}
use Rattle.mcs_ticks.specs.declared.row.Row.{Row}
use Rattle.mcs_ticks.specs.declared.row.What.{What}
use Rattle.mcs_system.specs.System.{System}
use Rattle.mcs_system.specs.WellFormed.{IsWellFormed}
use Rattle.mcs_core.specs.Turn.{stamped}
use Rattle.mcs_core.specs.Clock.{clock, turn_of, rows_of}
use Rattle.mcs_core.proofs.Clock.{rows-clock}
use Rattle.mcs_laws.proofs.Histories.{takes-time}
use Rattle.mcs_verdict.specs.Findings.{past_of}
use Rattle.mcs_verdict_laws.proofs.Fits.{Fits, AreFit, fit-later}
use Rattle.mcs_verdict_laws.proofs.Fitting.{fitting}
use Rattle.mcs_verdict_laws.proofs.Standings.{past-append}
use Rattle.mcs_ever_found.specs.Recurs.{past_before}
use Rattle.mcs_ever_found.specs.laws.Repeats.{rows_at}
use Rattle.mcs_ever_found.proofs.Alike.{at}
use Rattle.mcs_ever_found.proofs.Moments.{past-next}

-- the first ones of some rows
fit-first : (system : System) (x : ℕ) (past rows more : List Row) → AreFit system x past (rows ++ more) → AreFit system x past rows
fit-first system x past [] more all = tt
fit-first system x past (r ∷ rows) more all = (all.0, fit-first system x (r ∷ past) rows more all.1)

pub all-true : {A : Type 0} (P : A → Type 0) → ((x : A) → P x) → (xs : List A) → AllByRecursion P xs
all-true P f [] = tt
all-true P f (x ∷ xs) = (f x, all-true P f xs)

pub all-map : {A : Type 0} (P Q : A → Type 0) → ((x : A) → P x → Q x) → (xs : List A) → AllByRecursion P xs → AllByRecursion Q xs
all-map P Q f [] h = tt
all-map P Q f (x ∷ xs) h = (f x h.0, all-map P Q f xs h.1)

module _ (system : System) (well : IsWellFormed system) (x : ℕ) where
  -- the rows of a moment, by those before it
  fit-moment : (t : ℕ) → AreFit system x (past_before system t) (rows_at system t)
  fit-moment t =
      let P : List Row → Type 0 = λ rows. AreFit system x [] rows in
      fit-later system x [] (clock system t).rows (rows_at system t) (subst P (rows-clock system (takes-time system well) t) (fitting system well x t))

  module _ (from : ℕ) (Fact : ℕ → What → Type 0) (Q : List Row → Type 0)
      (keeps : (c t : ℕ) (what : What) (past : List Row) → from ≤ t → Fact c what → Fits system x past t what → Q past → Q (at t c what ∷ past)) where
    carried-turn : (c t : ℕ) (whats : List What) (past : List Row) → from ≤ t → AllByRecursion (Fact c) whats → AreFit system x past (stamped c t whats)
        → Q past → Q (past_of past (stamped c t whats))
    carried-turn c t [] past l facts fits q = q
    carried-turn c t (what ∷ whats) past l facts fits q =
        carried-turn c t whats (at t c what ∷ past) l facts.1 fits.1 (keeps c t what past l facts.0 fits.0 q)

    carried-cores : (n a t : ℕ) (past : List Row) → from ≤ t → a + n ≤ system.cores
        → ((c : ℕ) → c < system.cores → AllByRecursion (Fact c) (turn_of system c t).rows)
        → AreFit system x past (flat_map (λ c. rows_of system c t) (range_with_len a n)) → Q past
        → Q (past_of past (flat_map (λ c. rows_of system c t) (range_with_len a n)))
    carried-cores zero a t past l few facts fits q = q
    carried-cores (suc n) a t past l few facts fits q =
        let others = flat_map (λ c. rows_of system c t) (range_with_len (a + 1) n) in
        subst Q (sym (past-append past (rows_of system a t) others))
        (carried-cores n (a + 1) t (past_of past (rows_of system a t)) l (omega (arith, few)) facts
        (fit-later system x past (rows_of system a t) others fits)
        (carried-turn a t (turn_of system a t).rows past l (facts a (omega (arith, few))) (fit-first system x past (rows_of system a t) others fits) q))

    module _ (facts : (t c : ℕ) → from ≤ t → c < system.cores → AllByRecursion (Fact c) (turn_of system c t).rows) where
      carried-next : (t : ℕ) → from ≤ t → Q (past_before system t) → Q (past_before system (suc t))
      carried-next t l q =
          subst Q (sym (past-next system well t))
          (carried-cores system.cores 0 t (past_before system t) l (omega arith) (λ c known. facts t c l known) (fit-moment t) q)

      carried-from : (n t : ℕ) → from ≤ t → Q (past_before system t) → Q (past_before system (t + n))
      carried-from zero t l q = let e : t ≡ t + 0 = omega arith in let P : ℕ → Type 0 = λ t. Q (past_before system t) in subst P e q
      carried-from (suc n) t l q =
          let e : suc (t + n) ≡ t + suc n = omega arith in
          let P : ℕ → Type 0 = λ t. Q (past_before system t) in
          subst P e (carried-next (t + n) (omega (arith, l)) (carried-from n t l q))

      -- from one moment to a later one
      pub carried : (s t : ℕ) → from ≤ s → s ≤ t → Q (past_before system s) → Q (past_before system t)
      carried s t l m q =
          let e : s + (t - s) ≡ t = omega (arith, m) in
          let P : ℕ → Type 0 = λ t. Q (past_before system t) in subst P e (carried-from (t - s) s l q)
