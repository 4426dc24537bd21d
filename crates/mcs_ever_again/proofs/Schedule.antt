-- The rows of a schedule between two moments, moment by moment.
use Rattle.std.proofs.Common.{◌≡◌, ℕ, zero, suc, ◌+◌, ◌-◌, List, [], ◌∷◌, ◌++◌, refl, sym, ap, ◌∙◌, arith, append_assoc}
use Rattle.std.specs.Prelude.{flat_map}
use Rattle.std.specs.List.{range_with_len}
use Rattle.std.proofs.lemmas.List.{map-append, append-nil, append_cancel_left}
use Rattle.mcs_ticks.specs.declared.row.Row.{Row}
use Rattle.mcs_ticks.specs.declared.row.What.{What}
use Rattle.mcs_system.specs.System.{System}
use Rattle.mcs_core.specs.Turn.{stamped}
use Rattle.mcs_core.specs.Clock.{clock, turn_of, rows_of}
use Rattle.mcs_laws.specs.Turns.{cores, RowsAreOfTurns}
use Rattle.mcs_ever_again.specs.Period.{told_at, told_between}
use Rattle.mcs_ever_again.specs.Schedule.{whats, RowsTellTurns}

whats-stamped : (c t : ℕ) (told : List What) → whats (stamped c t told) ≡ told
whats-stamped c t [] = refl
whats-stamped c t (what ∷ told) = ap (λ (told : List What). what ∷ told) (whats-stamped c t told)

whats-both : (xs ys : List Row) → whats (xs ++ ys) ≡ whats xs ++ whats ys
whats-both xs ys = map-append (λ (row : Row). row.what) xs ys

module _ (system : System) where
  whats-turns : (t : ℕ) (cs : List ℕ) → whats (flat_map (λ c. rows_of system c t) cs) ≡ flat_map (λ c. (turn_of system c t).rows) cs
  whats-turns t [] = refl
  whats-turns t (c ∷ cs) =
      whats-both (rows_of system c t) (flat_map (λ c. rows_of system c t) cs)
      ∙ ap (λ (told : List What). told ++ whats (flat_map (λ c. rows_of system c t) cs)) (whats-stamped c t (turn_of system c t).rows)
      ∙ ap (λ (more : List What). (turn_of system c t).rows ++ more) (whats-turns t cs)

  module _ (turns : RowsAreOfTurns system) where
    whats-moment : (t : ℕ) → whats (clock system (suc t)).rows ≡ whats (clock system t).rows ++ told_at system t
    whats-moment t =
        ap whats (turns t)
        ∙ whats-both (clock system t).rows (flat_map (λ c. rows_of system c t) (cores system))
        ∙ ap (λ (more : List What). whats (clock system t).rows ++ more) (whats-turns t (cores system))

    whats-moments : (k from : ℕ) → whats (clock system (from + k)).rows
        ≡ whats (clock system from).rows ++ flat_map (told_at system) (range_with_len from k)
    whats-moments zero from =
        let same : from + zero ≡ from = omega arith in
        ap (λ (t : ℕ). whats (clock system t).rows) same ∙ sym (append-nil (whats (clock system from).rows))
    whats-moments (suc k) from =
        let next : from + suc k ≡ from + 1 + k = omega arith in
        let one : from + 1 ≡ suc from = omega arith in
        ap (λ (t : ℕ). whats (clock system t).rows) next
        ∙ whats-moments k (from + 1)
        ∙ ap (λ (told : List What). told ++ flat_map (told_at system) (range_with_len (from + 1) k))
        (ap (λ (t : ℕ). whats (clock system t).rows) one ∙ whats-moment from)
        ∙ append_assoc (whats (clock system from).rows) (told_at system from) (flat_map (told_at system) (range_with_len (from + 1) k))

    pub rows-tell : RowsTellTurns system
    rows-tell from past rows within is =
        let all : from + (past - from) ≡ past = omega (arith, within) in
        append_cancel_left (whats (clock system from).rows) (whats rows) (told_between system from past)
        (sym (whats-both (clock system from).rows rows)
        ∙ sym (ap whats is)
        ∙ sym (ap (λ (t : ℕ). whats (clock system t).rows) all)
        ∙ whats-moments (past - from) from)
