-- The turns of a moment whose rows stand alone.
use Rattle.std.proofs.Common.{◌≡◌, ℕ, zero, suc, ◌+◌, ◌<◌, inl, inr, Bool, true, List, [], ◌∷◌, ◌++◌, Option, Some, None, refl, sym, ap, subst, add-zero, arith}
use Rattle.std.specs.Prelude.{flat_map, unwrap_or}
use Rattle.std.specs.List.{AllByRecursion, range_with_len}
use Rattle.mcs_ticks.specs.declared.row.Row.{Row}
use Rattle.mcs_ticks.specs.declared.row.What.{What}
use Rattle.mcs_system.specs.System.{System}
use Rattle.mcs_core.specs.Clock.{rows_of, turn_of}
use Rattle.mcs_core.specs.Turn.{stamped}
use Rattle.mcs_ever_search.specs.Together.{rows_at}
use Rattle.mcs_ever_chain.specs.Recurs.{is_from, StandAlone}
use Rattle.mcs_ever_chain.specs.stored.Alone.{AreAlone}

-- the core before the row behind these rows of core c
abbrev core_after : Option ℕ → ℕ → List What → Option ℕ
core_after before c [] = before
core_after before c (what ∷ rows) = Some c

abbrev IsBelow : Option ℕ → ℕ → Type 0
IsBelow before a = (k : ℕ) → before ≡ Some k → k < a

module _ (group : ℕ → Bool) (c t : ℕ) where
  behind : (before : Option ℕ) (rows : List What) (rest : List Row) → AreAlone group before (stamped c t rows ++ rest) → AreAlone group (core_after before c rows) rest
  behind before [] rest h = h
  behind before (what ∷ []) rest h = h.1
  behind before (what ∷ next ∷ rows) rest h = behind (Some c) (next ∷ rows) rest h.1

  makers : (before : Option ℕ) (rows : List What) (rest : List Row) → group c ≡ true → AreAlone group before (stamped c t rows ++ rest) →
      AllByRecursion (λ what. is_from group what ≡ true) rows
  makers before [] rest own h = tt
  makers before (what ∷ rows) rest own h = ((h.0 own).1, makers (Some c) rows rest own h.1)

  alone : (before : Option ℕ) (rows : List What) (rest : List Row) → (before ≡ Some c → ⊥) → group c ≡ true → AreAlone group before (stamped c t rows ++ rest) →
      StandAlone group rows
  alone before [] rest other own h = record { first = refl; makers = tt }
  alone before (what ∷ rows) rest other own h =
      record { first = elim (h.0 own).0 [ inl e ↦ absurd (other e) | inr e ↦ e ]; makers = makers before (what ∷ rows) rest own h }

below-next : (before : Option ℕ) (a : ℕ) (rows : List What) → IsBelow before a → IsBelow (core_after before a rows) (a + 1)
below-next before a [] h k e = let l = h k e in omega (arith, l)
below-next before a (what ∷ rows) h k e = let same : a ≡ k = ap (λ o. unwrap_or o 0) e in omega (arith, same)

module _ (system : System) (group : ℕ → Bool) (t : ℕ) where
  each-alone : (n a : ℕ) (before : Option ℕ) → IsBelow before a → AreAlone group before (flat_map (λ c. rows_of system c t) (range_with_len a n)) →
      (i : ℕ) → i < n → group (a + i) ≡ true → StandAlone group (turn_of system (a + i) t).rows
  each-alone zero a before below h i l own = absurd (omega (arith, l))
  each-alone (suc n) a before below h zero l own =
      let P : ℕ → Type 0 = λ c. group c ≡ true in
      let Q : ℕ → Type 0 = λ c. StandAlone group (turn_of system c t).rows in
      let not_here : before ≡ Some a → ⊥ = λ e. absurd (let k = below a e in omega (arith, k)) in
      subst Q (sym (add-zero a))
      (alone group a t before (turn_of system a t).rows (flat_map (λ c. rows_of system c t) (range_with_len (a + 1) n)) not_here (subst P (add-zero a) own) h)
  each-alone (suc n) a before below h (suc i) l own =
      let rows = (turn_of system a t).rows in
      let same : a + suc i ≡ a + 1 + i = omega arith in
      let P : ℕ → Type 0 = λ c. group c ≡ true in
      let Q : ℕ → Type 0 = λ c. StandAlone group (turn_of system c t).rows in
      subst Q (sym same)
      (each-alone n (a + 1) (core_after before a rows) (below-next before a rows below)
      (behind group a t before rows (flat_map (λ c. rows_of system c t) (range_with_len (a + 1) n)) h) i (omega (arith, l)) (subst P same own))

  pub turns-alone : AreAlone group None (rows_at system t) → (c : ℕ) → c < system.cores → group c ≡ true → StandAlone group (turn_of system c t).rows
  turns-alone h c known own =
      let same : c ≡ 0 + c = omega arith in
      let P : ℕ → Type 0 = λ c. group c ≡ true in
      let Q : ℕ → Type 0 = λ c. StandAlone group (turn_of system c t).rows in
      subst Q (sym same) (each-alone system.cores 0 None (λ k e. absurd (cc)) h c known (subst P same own))
