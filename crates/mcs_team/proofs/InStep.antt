-- A run in step, round after round.
use Rattle.std.proofs.Common.{◌≡◌, ℕ, ◌<◌, ◌⊎◌, inl, inr, Bool, true, false, List, [], ◌∷◌, ◌++◌, ◌↔◌, sym, ap, ◌∙◌, subst, refl, arith}
use Rattle.std.specs.Prelude.{IsTrue}
use Rattle.mcs_ticks.specs.declared.row.Row.{Row}
use Rattle.mcs_ticks.specs.Given.{Given, GivenUntil, GivenSome}
use Rattle.mcs_ticks.proofs.Givens.{given-none, held_more}
use Rattle.mcs_system.specs.System.{System}
use Rattle.mcs_core.specs.Clock.{schedule}
use Rattle.mcs_step.specs.Steps.{Steps, IsOnSchedule, IsOver, IsToldBetween, opening_steps, rows_before, rows_so_far}
use Rattle.mcs_step.proofs.Rows.{rows-end}
use Rattle.mcs_team.proofs.Giving.{given-append, until-append, until-more}

-- between two rounds: the output was given the rows so far, and the collector is empty
pub record IsGoing {S O : Type 0} (takes : O → Row → Bool → O → Type 0) (holds : S → List Row → Type 0) (system : System) (horizon : ℕ) (before : O)
    (steps : Steps) (told : S) (out : O) : Type 0 where
  pub system_is : steps.system ≡ system
  pub horizon_is : steps.horizon ≡ horizon
  pub going : steps.failed ≡ false
  pub on_schedule : IsOnSchedule steps
  pub empty : holds told []
  pub given : Given takes before (rows_so_far steps) out

module _ {S O : Type 0} (takes : O → Row → Bool → O → Type 0) (holds : S → List Row → Type 0) where
  pub going-first : (steps : Steps) (told : S) (out : O) → steps ≡ opening_steps steps.system steps.horizon → holds told [] → IsGoing takes holds steps.system steps.horizon out steps told out
  going-first steps told out e empty =
      record {
        system_is = refl;
        horizon_is = refl;
        going = ap (λ (s : Steps). s.failed) e;
        on_schedule = subst IsOnSchedule (sym e) (schedule steps.system steps.horizon, refl);
        empty = empty;
        given = subst (λ (s : Steps). Given takes out (rows_so_far s) out) (sym e) (given-none takes out);
      }

  module _ (system : System) (horizon : ℕ) (before : O) (steps : Steps) (told : S) (out : O) (is : IsGoing takes holds system horizon before steps told out) where
    pub going-over : IsOver steps → Given takes before (schedule system horizon) out
    going-over over =
        subst (λ xs. Given takes before xs out)
        (ap (rows_before steps.system steps.moment) over.core_is ∙ rows-end steps.system steps.moment steps.horizon over.moment_is ∙ ap (λ (s : System). schedule s steps.horizon) is.system_is ∙ ap (schedule system) is.horizon_is)
        is.given

    -- turns were taken, and the collector has their rows
    module _ (tells : S → Row → Bool → S → Type 0) (holds_more : (s t : S) (held : List Row) (row : Row) → holds s held → tells s row true t → holds t (held ++ row ∷ []))
        (later : Steps) (full : S) (system_same : later.system ≡ steps.system) (horizon_same : later.horizon ≡ steps.horizon) (whole : IsOnSchedule later)
        (was_told : IsToldBetween tells steps later told full) where
      pub holds-told : holds full (was_told.0)
      holds-told = held_more tells holds holds_more told full [] was_told.0 is.empty was_told.2

      pub going-next : later.failed ≡ false → (room : S) (after : O) → holds room [] → Given takes out was_told.0 after → IsGoing takes holds system horizon before later room after
      going-next going room after empty given =
          record {
            system_is = system_same ∙ is.system_is;
            horizon_is = horizon_same ∙ is.horizon_is;
            going = going;
            on_schedule = whole;
            empty = empty;
            given = subst (λ xs. Given takes before xs after) was_told.1 (given-append takes before out after (rows_so_far steps) was_told.0 is.given given);
          }

      pub going-refused : (after : O) → GivenUntil takes out was_told.0 after → GivenUntil takes before (schedule system horizon) after
      going-refused after refused =
          subst (λ xs. GivenUntil takes before xs after)
          (whole.1 ∙ ap (λ (s : System). schedule s later.horizon) (system_same ∙ is.system_is) ∙ ap (schedule system) (horizon_same ∙ is.horizon_is))
          (until-more takes before after (rows_so_far later) whole.0
          (subst (λ xs. GivenUntil takes before xs after) was_told.1 (until-append takes before out after (rows_so_far steps) was_told.0 is.given refused)))
