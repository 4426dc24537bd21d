-- The state that is kept of the way of an answer, after rows were given to its follower.
use Rattle.std.proofs.Common.{◌≡◌, ◌∙◌, ◌∷◌, [], Bool, true, List, refl, ap, sym, subst}
use Rattle.mcs_ticks.specs.declared.row.Row.{Row}
use Rattle.mcs_ticks.specs.Given.{Given}
use Rattle.mcs_system.specs.System.{System}
use Rattle.mcs_verdict.specs.Findings.{InOrder, UpTo, past_of}
use Rattle.mcs_chain.specs.declared.answer.Answer.{Answer}
use Rattle.mcs_way.specs.Trail.{trail_of}
use Rattle.mcs_explain.specs.declared.follower.Follower.{Follower}

module _ {P : Type 0} where
  abbrev pub Takes : Follower P → Row → Bool → Follower P → Type 0
  Takes before row taken after =
      (after.system ≡ before.system)
      × ((answer : Answer) (past : List Row) → before.trail ≡ trail_of before.system.now answer past →
      UpTo row.moment past → taken ≡ true → after.trail ≡ trail_of before.system.now answer (row ∷ past))

  module _ (system : System) (answer : Answer) where
    abbrev pub IsAfter : List Row → Follower P → Type 0
    IsAfter past s = (s.system.now ≡ system) × (s.trail ≡ trail_of system answer past)

    step : (past : List Row) (r : Row) (s t : Follower P) → IsAfter past s → UpTo r.moment past → Takes s r true t → IsAfter (r ∷ past) t
    step past r s t kept up takes =
        let is : t.system.now ≡ system = ap (λ b. b.now) takes.0 ∙ kept.0 in
        let before = subst (λ own. s.trail ≡ trail_of own answer past) (sym kept.0) kept.1 in
        (is, subst (λ own. t.trail ≡ trail_of own answer (r ∷ past)) kept.0 (takes.1 answer past before up refl))

    pub rows-followed : (past rows : List Row) (s t : Follower P) → IsAfter past s → InOrder past rows → Given Takes s rows t → IsAfter (past_of past rows) t
    rows-followed past [] s t kept order g = subst (IsAfter past) g kept
    rows-followed past (r ∷ rows) s t kept order g = rows-followed (r ∷ past) rows g.0 t (step past r s g.0 kept order.0 g.1) order.1 g.2
