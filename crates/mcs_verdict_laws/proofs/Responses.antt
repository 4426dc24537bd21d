-- The rows before the end of a round tell when it began.
use Rattle.std.proofs.Common.{◌≡◌, ℕ, suc, List, [], ◌∷◌, Option, refl, ap, subst, ◌∙◌}
use Rattle.mcs_ticks.specs.declared.row.Row.{Row}
use Rattle.mcs_ticks.specs.declared.row.What.{What}
use Rattle.mcs_ticks.specs.declared.row.What.TheVariants as row
use Rattle.mcs_system.specs.System.{System}
use Rattle.mcs_verdict.specs.Rounds.{begun_after, begun_of}
use Rattle.mcs_verdict_laws.specs.laws.Responses.{IsToldBy, AreTold, ResponsesAreTold}
use Rattle.mcs_verdict_laws.proofs.Steps.{Told, IsTimed, Leads}
use Rattle.mcs_verdict_laws.proofs.Holds.{first}
use Rattle.mcs_verdict_laws.proofs.Entering.{self}
use Rattle.mcs_verdict_laws.proofs.Reached.{reached}

module _ (system : System) where
  -- the rounds of one thread
  abbrev AreTimed : ℕ → List Row → List Row → Type 0
  AreTimed x past [] = Unit {0}
  AreTimed x past (r ∷ rows) = IsTimed x r.moment r.what (begun_of system x past) × AreTimed x (r ∷ past) rows

  timed : (x : ℕ) (past rows : List Row) (before last : Told) → Leads x (first system x) before rows last → before.begun ≡ begun_of system x past
      → AreTimed x past rows
  timed x past [] before last leads e = tt
  timed x past (r ∷ rows) before last leads e =
      let P : Option ℕ → Type 0 = λ begun. IsTimed x r.moment r.what begun in
      let step = leads.1 in
      (subst P e step.timed, timed x (r ∷ past) rows leads.0 last leads.2 (step.begins ∙ again r e))
    where
      again : (r : Row) → before.begun ≡ begun_of system x past
          → begun_after (first system x).waits (first system x).bits x r.moment r.what before.begun ≡ begun_of system x (r ∷ past)
      again r e = ap (λ begun. begun_after (first system x).waits (first system x).bits x r.moment r.what begun) e

  -- of all
  told_by : (past : List Row) (moment : ℕ) (what : What) → ((x : ℕ) → IsTimed x moment what (begun_of system x past))
      → IsToldBy system past moment what
  told_by past moment (row.Round thread number response) h =
      let t = h thread (self thread) in
      record { beginning = t.0; told = t.1; response_is = t.2 }
  told_by past moment (row.Release y) h = tt
  told_by past moment (row.Run y) h = tt
  told_by past moment (row.Stop y cause charged until) h = tt
  told_by past moment (row.Signal y note badge) h = tt
  told_by past moment (row.Arrive note badge maker) h = tt
  told_by past moment (row.Wake y note word until) h = tt
  told_by past moment (row.Hold note word) h = tt
  told_by past moment (row.Got y note word) h = tt
  told_by past moment (row.Order context) h = tt
  told_by past moment (row.Interrupt source at_note badge) h = tt

  told_all : (past rows : List Row) → ((x : ℕ) → AreTimed x past rows) → AreTold system past rows
  told_all past [] h = tt
  told_all past (r ∷ rows) h = (told_by past r.moment r.what (λ x. (h x).0), told_all (r ∷ past) rows (λ x. (h x).1))

pub responses_told : ResponsesAreTold
responses_told system well horizon =
    told_all system [] _ (λ x. let r = reached system well x (suc horizon) in timed system x [] _ _ r.told r.leads refl)
