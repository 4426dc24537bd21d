-- The state that is kept to find an answer, after rows were given to its seeker.
use Rattle.std.proofs.Common.{◌≡◌, ◌∙◌, ◌∷◌, [], ℕ, Bool, true, List, refl, ap, sym, subst}
use Rattle.mcs_ticks.specs.declared.row.Row.{Row}
use Rattle.mcs_ticks.specs.Given.{Given}
use Rattle.mcs_system.specs.System.{System}
use Rattle.mcs_verdict.specs.Findings.{past_of}
use Rattle.mcs_way.specs.Sought.{search_of}
use Rattle.mcs_explain.specs.declared.answer_seeker.AnswerSeeker.{AnswerSeeker}

module _ {P : Type 0} where
  abbrev pub Takes : AnswerSeeker P → Row → Bool → AnswerSeeker P → Type 0
  Takes before row taken after =
      (after.system ≡ before.system)
      × ((chain number : ℕ) (past : List Row) → before.search ≡ search_of before.system.now chain number past →
      taken ≡ true → after.search ≡ search_of before.system.now chain number (row ∷ past))

  module _ (system : System) (chain number : ℕ) where
    abbrev pub IsAfter : List Row → AnswerSeeker P → Type 0
    IsAfter past s = (s.system.now ≡ system) × (s.search ≡ search_of system chain number past)

    step : (past : List Row) (r : Row) (s t : AnswerSeeker P) → IsAfter past s → Takes s r true t → IsAfter (r ∷ past) t
    step past r s t kept takes =
        let is : t.system.now ≡ system = ap (λ b. b.now) takes.0 ∙ kept.0 in
        let before = subst (λ own. s.search ≡ search_of own chain number past) (sym kept.0) kept.1 in
        (is, subst (λ own. t.search ≡ search_of own chain number (r ∷ past)) kept.0 (takes.1 chain number past before refl))

    pub rows-sought : (past rows : List Row) (s t : AnswerSeeker P) → IsAfter past s → Given Takes s rows t → IsAfter (past_of past rows) t
    rows-sought past [] s t kept g = subst (IsAfter past) g kept
    rows-sought past (r ∷ rows) s t kept g = rows-sought (r ∷ past) rows g.0 t (step past r s g.0 kept g.1) g.2
