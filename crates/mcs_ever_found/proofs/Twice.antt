-- A relation between rows and those of a period later that each row of a group that recurs keeps.
use Rattle.std.proofs.Common.{◌≡◌, ℕ, zero, suc, ◌+◌, ◌-◌, ◌<◌, ◌≤◌, Bool, true, false, List, [], ◌∷◌, map, refl, sym, subst, ap, ◌∙◌, arith}
use Rattle.std.specs.Prelude.{flat_map}
use Rattle.std.specs.List.{range_with_len, AllByRecursion}
use Rattle.mcs_ticks.specs.declared.row.Row.{Row}
use Rattle.mcs_ticks.specs.declared.row.What.{What}
use Rattle.mcs_system.specs.System.{System}
use Rattle.mcs_system.specs.WellFormed.{IsWellFormed}
use Rattle.mcs_core.specs.Turn.{stamped}
use Rattle.mcs_core.specs.Clock.{turn_of, rows_of}
use Rattle.mcs_verdict.specs.Findings.{past_of}
use Rattle.mcs_verdict_laws.proofs.Standings.{past-append}
use Rattle.mcs_ever.specs.Later.{later_what}
use Rattle.mcs_ever.specs.Recurs.{Shifts, shift_of, Recurs}
use Rattle.mcs_ever.specs.laws.Home.{IsOfOwn}
use Rattle.mcs_ever.proofs.Home.{rows-of-own}
use Rattle.mcs_ever.proofs.Worlds.{rows-again}
use Rattle.mcs_ever_found.specs.Recurs.{past_before}
use Rattle.mcs_ever_found.proofs.Alike.{at}
use Rattle.mcs_ever_found.proofs.Moments.{past-next}

module _ (system : System) (group : ℕ → Bool) (shifts : Shifts) (from : ℕ) (well : IsWellFormed system) (recurs : Recurs system group shifts from) where
  abbrev d : ℕ
  d = shifts.by

  abbrev whats : ℕ → ℕ → List What
  whats t c = (turn_of system c t).rows

  module _ (Fact : What → Type 0) (Q : List Row → List Row → Type 0)
      (own : (c t : ℕ) (what : What) (past past' : List Row) → Fact what → Q past past' → Q (at t c what ∷ past) (at (t + shifts.by) c (later_what (shift_of shifts c) what) ∷ past'))
      (left : (c t : ℕ) (what : What) (past past' : List Row) → group c ≡ false → IsOfOwn system c what → Q past past' → Q (at t c what ∷ past) past')
      (right : (c t : ℕ) (what : What) (past past' : List Row) → group c ≡ false → IsOfOwn system c what → Q past past' → Q past (at t c what ∷ past'))
      (facts : (t c : ℕ) → from ≤ t → c < system.cores → group c ≡ true → AllByRecursion Fact (turn_of system c t).rows) where
    own-turn : (c t : ℕ) (whats : List What) (past past' : List Row) → AllByRecursion Fact whats → Q past past'
        → Q (past_of past (stamped c t whats)) (past_of past' (stamped c (t + d) (map (later_what (shift_of shifts c)) whats)))
    own-turn c t [] past past' facts q = q
    own-turn c t (what ∷ whats) past past' facts q =
        own-turn c t whats (at t c what ∷ past) (at (t + d) c (later_what (shift_of shifts c) what) ∷ past') facts.1 (own c t what past past' facts.0 q)

    left-turn : (c t : ℕ) (whats : List What) (past past' : List Row) → group c ≡ false → AllByRecursion (IsOfOwn system c) whats → Q past past'
        → Q (past_of past (stamped c t whats)) past'
    left-turn c t [] past past' away o q = q
    left-turn c t (what ∷ whats) past past' away o q = left-turn c t whats (at t c what ∷ past) past' away o.1 (left c t what past past' away o.0 q)

    right-turn : (c t : ℕ) (whats : List What) (past past' : List Row) → group c ≡ false → AllByRecursion (IsOfOwn system c) whats → Q past past'
        → Q past (past_of past' (stamped c t whats))
    right-turn c t [] past past' away o q = q
    right-turn c t (what ∷ whats) past past' away o q = right-turn c t whats past (at t c what ∷ past') away o.1 (right c t what past past' away o.0 q)

    twice-core : (c t : ℕ) (past past' : List Row) → from ≤ t → c < system.cores → Q past past'
        → Q (past_of past (rows_of system c t)) (past_of past' (rows_of system c (t + d)))
    twice-core c t past past' l known q = by (group c) refl
      where
        by : (b : Bool) → group c ≡ b → Q (past_of past (rows_of system c t)) (past_of past' (rows_of system c (t + d)))
        by true mine =
            let P : List What → Type 0 = λ ws. Q (past_of past (stamped c t (whats t c))) (past_of past' (stamped c (t + d) ws)) in
            subst P (sym (rows-again system group shifts from well recurs t c l known mine)) (own-turn c t (whats t c) past past' (facts t c l known mine) q)
        by false away =
            right-turn c (t + d) (whats (t + d) c) (past_of past (rows_of system c t)) past' away (rows-of-own system well c (t + d) known)
            (left-turn c t (whats t c) past past' away (rows-of-own system well c t known) q)

    twice-cores : (n a t : ℕ) (past past' : List Row) → from ≤ t → a + n ≤ system.cores → Q past past'
        → Q (past_of past (flat_map (λ c. rows_of system c t) (range_with_len a n))) (past_of past' (flat_map (λ c. rows_of system c (t + d)) (range_with_len a n)))
    twice-cores zero a t past past' l few q = q
    twice-cores (suc n) a t past past' l few q =
        rw (
          past-append past (rows_of system a t) (flat_map (λ c. rows_of system c t) (range_with_len (a + 1) n)),
          past-append past' (rows_of system a (t + d)) (flat_map (λ c. rows_of system c (t + d)) (range_with_len (a + 1) n)),
        )
        (twice-cores n (a + 1) t (past_of past (rows_of system a t)) (past_of past' (rows_of system a (t + d))) l (omega (arith, few))
        (twice-core a t past past' l (omega (arith, few)) q))

    abbrev At : ℕ → Type 0
    At t = Q (past_before system t) (past_before system (t + shifts.by))

    twice-next : (t : ℕ) → from ≤ t → At t → At (suc t)
    twice-next t l q =
        let now = twice-cores system.cores 0 t (past_before system t) (past_before system (t + d)) l (omega arith) q in
        let e : suc (t + d) ≡ suc t + d = omega arith in
        let P : ℕ → Type 0 = λ n. Q (past_before system (suc t)) (past_before system n) in
        subst P e (rw (past-next system well t, past-next system well (t + d)) now)

    twice-from : (n : ℕ) → At from → At (from + n)
    twice-from zero q = let e : from ≡ from + 0 = omega arith in subst At e q
    twice-from (suc n) q = let e : suc (from + n) ≡ from + suc n = omega arith in subst At e (twice-next (from + n) (omega arith) (twice-from n q))

    pub twice : (t : ℕ) → from ≤ t → At from → At t
    twice t l q = let e : from + (t - from) ≡ t = omega (arith, l) in subst At e (twice-from (t - from) q)
