-- A source of a group that recurs makes as many interrupts at each moment as a period before.
use Rattle.std.proofs.Common.{◌≡◌, ◌∙◌, ℕ, zero, suc, ◌+◌, ◌<◌, ◌≤◌, Bool, true, false, cond, ◌==◌, List, [], ◌∷◌, ◌++◌, map, refl, sym, ap, ap₂, arith}
use Rattle.std.specs.Prelude.{flat_map}
use Rattle.std.specs.List.{range_with_len, AllByRecursion}
use Rattle.std.proofs.lemmas.List.Sums.{sum_by-append, sum_by-cons}
use Rattle.mcs_ticks.specs.declared.row.Row.{Row}
use Rattle.mcs_ticks.specs.declared.row.What.{What}
use Rattle.mcs_ticks.specs.declared.row.What.TheVariants as row
use Rattle.mcs_system.specs.declared.part.ChainPart.{ChainPart}
use Rattle.mcs_system.specs.System.{System, note_part, source_part}
use Rattle.mcs_system.specs.WellFormed.{IsWellFormed}
use Rattle.mcs_core.specs.Turn.{stamped}
use Rattle.mcs_core.specs.Clock.{turn_of, rows_of}
use Rattle.mcs_verdict.specs.Findings.{past_of}
use Rattle.mcs_chain.specs.Answers.{interrupts, is_interrupt}
use Rattle.mcs_ever.specs.Later.{Shift, later_what}
use Rattle.mcs_ever.specs.Recurs.{Shifts, shift_of}
use Rattle.mcs_ever.specs.laws.Home.{IsOfOwn}
use Rattle.mcs_ever.proofs.Home.{rows-of-own}
use Rattle.mcs_ever_found.specs.Recurs.{past_before}
use Rattle.mcs_ever_found.specs.laws.Repeats.{rows_at}
use Rattle.mcs_ever_found.proofs.Alike.{at}
use Rattle.mcs_ever_found.proofs.Moments.{past-next}
use Rattle.mcs_ever_chain.specs.Recurs.{ChainRecurs}
use Rattle.mcs_ever_chain.specs.laws.Repeats.{IsAddedInEach, interrupts_before}
use Rattle.mcs_ever_chain.proofs.Counts.{added}
use Rattle.mcs_ever_chain.proofs.Outside.{IsOfSource, contrary, equal}
use Rattle.mcs_ever_chain.proofs.Sources.{rows-of-source}

interrupt-later : (source : ℕ) (shift : Shift) (what : What) → is_interrupt source (later_what shift what) ≡ is_interrupt source what
interrupt-later source shift (row.Interrupt x note badge) = refl
interrupt-later source shift (row.Hold note word) = refl
interrupt-later source shift (row.Wake x note word until) = refl
interrupt-later source shift (row.Got x note word) = refl
interrupt-later source shift (row.Round x number response) = refl
interrupt-later source shift (row.Stop x why charged until) = refl
interrupt-later source shift (row.Release x) = refl
interrupt-later source shift (row.Run x) = refl
interrupt-later source shift (row.Signal x note badge) = refl
interrupt-later source shift (row.Arrive note badge maker) = refl
interrupt-later source shift (row.Order context) = refl

module _ (chain : ChainPart) where
  abbrev one : What → ℕ
  one what = cond (is_interrupt chain.source what) 1 0

  each : (r : Row) (rows : List Row) → interrupts chain (r ∷ rows) ≡ one r.what + interrupts chain rows
  each r rows = sum_by-cons (λ (r : Row). one r.what) r rows

  both : (xs ys : List Row) → interrupts chain (xs ++ ys) ≡ interrupts chain xs + interrupts chain ys
  both xs ys = sum_by-append (λ (r : Row). one r.what) xs ys

  swapped : (a b c : ℕ) → a + (b + c) ≡ b + a + c
  swapped a b c = omega arith

  in-past : (past rows : List Row) → interrupts chain (past_of past rows) ≡ interrupts chain rows + interrupts chain past
  in-past past [] = sym (none (interrupts chain past))
    where
      none : (n : ℕ) → 0 + n ≡ n
      none n = omega arith
  in-past past (r ∷ rows) =
      in-past (r ∷ past) rows ∙ ap (λ n. interrupts chain rows + n) (each r past)
      ∙ swapped (interrupts chain rows) (one r.what) (interrupts chain past)
      ∙ ap (λ n. n + interrupts chain past) (sym (each r rows))

  turn-later : (c t by : ℕ) (shift : Shift) (rows : List What) → interrupts chain (stamped c (t + by) (map (later_what shift) rows)) ≡ interrupts chain (stamped c t rows)
  turn-later c t by shift [] = refl
  turn-later c t by shift (what ∷ rows) =
      each (at (t + by) c (later_what shift what)) (stamped c (t + by) (map (later_what shift) rows))
      ∙ ap₂ (λ m n. m + n) (ap (λ b. cond b 1 0) (interrupt-later chain.source shift what)) (turn-later c t by shift rows)
      ∙ sym (each (at t c what) (stamped c t rows))

  module _ (system : System) (group : ℕ → Bool) (here : group (note_part system (source_part system chain.source).note).core ≡ true) where
    -- no core outside the group has an interrupt of the source
    none-away : (c : ℕ) (what : What) → group c ≡ false → IsOfOwn system c what → IsOfSource system what → is_interrupt chain.source what ≡ false
    none-away c (row.Interrupt x note badge) away own of = by (x == chain.source) refl
      where
        by : (b : Bool) → (x == chain.source) ≡ b → b ≡ false
        by true e =
            let same : note ≡ (source_part system chain.source).note = of ∙ ap (λ s. (source_part system s).note) (equal x chain.source e) in
            absurd (contrary (sym here ∙ ap (λ n. group (note_part system n).core) (sym same) ∙ ap group own.home ∙ away))
        by false e = refl
    none-away c (row.Hold note word) away own of = refl
    none-away c (row.Wake x note word until) away own of = refl
    none-away c (row.Got x note word) away own of = refl
    none-away c (row.Round x number response) away own of = refl
    none-away c (row.Stop x why charged until) away own of = refl
    none-away c (row.Release x) away own of = refl
    none-away c (row.Run x) away own of = refl
    none-away c (row.Signal x note badge) away own of = refl
    none-away c (row.Arrive note badge maker) away own of = refl
    none-away c (row.Order context) away own of = refl

    turn-away : (c t : ℕ) (rows : List What) → group c ≡ false → AllByRecursion (IsOfOwn system c) rows → AllByRecursion (IsOfSource system) rows
        → interrupts chain (stamped c t rows) ≡ 0
    turn-away c t [] away own of = refl
    turn-away c t (what ∷ rows) away own of =
        each (at t c what) (stamped c t rows)
        ∙ ap₂ (λ m n. m + n) (ap (λ b. cond b 1 0) (none-away c what away own.0 of.0)) (turn-away c t rows away own.1 of.1)

    module _ (shifts : Shifts) (from : ℕ) (well : IsWellFormed system) (recurs : ChainRecurs system chain group shifts from) where
      core-later : (c t : ℕ) → from ≤ t → c < system.cores → interrupts chain (rows_of system c (t + shifts.by)) ≡ interrupts chain (rows_of system c t)
      core-later c t l known = by (group c) refl
        where
          none : (m : ℕ) → group c ≡ false → interrupts chain (rows_of system c m) ≡ 0
          none m away = turn-away c m (turn_of system c m).rows away (rows-of-own system well c m known) (rows-of-source system c m)

          by : (b : Bool) → group c ≡ b → interrupts chain (rows_of system c (t + shifts.by)) ≡ interrupts chain (rows_of system c t)
          by true own =
              ap (λ rows. interrupts chain (stamped c (t + shifts.by) rows)) (recurs.rows t c l known own)
              ∙ turn-later c t shifts.by (shift_of shifts c) (turn_of system c t).rows
          by false away = none (t + shifts.by) away ∙ sym (none t away)

      cores-later : (n a t : ℕ) → from ≤ t → a + n ≤ system.cores
          → interrupts chain (flat_map (λ c. rows_of system c (t + shifts.by)) (range_with_len a n)) ≡ interrupts chain (flat_map (λ c. rows_of system c t) (range_with_len a n))
      cores-later zero a t l few = refl
      cores-later (suc n) a t l few =
          both (rows_of system a (t + shifts.by)) (flat_map (λ c. rows_of system c (t + shifts.by)) (range_with_len (a + 1) n))
          ∙ ap₂ (λ k m. k + m) (core-later a t l (omega (arith, few))) (cores-later n (a + 1) t l (omega (arith, few)))
          ∙ sym (both (rows_of system a t) (flat_map (λ c. rows_of system c t) (range_with_len (a + 1) n)))

      pub interrupts-added : IsAddedInEach shifts from (interrupts_before system chain)
      interrupts-added =
          added shifts from (interrupts_before system chain) (λ t. interrupts chain (rows_at system t))
          (λ t. ap (interrupts chain) (past-next system well t) ∙ in-past (past_before system t) (rows_at system t))
          (λ t l. cores-later system.cores 0 t l (omega arith))
