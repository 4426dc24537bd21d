-- Cores in step whose rows are counted, round after round.
use Rattle.std.proofs.Common.{◌≡◌, ℕ, Bool, false, List, [], ◌∷◌, ◌++◌, refl, sym, ap, ◌∙◌, subst}
use Rattle.std.specs.Prelude.{fold}
use Rattle.std.proofs.lemmas.List.Sums.{fold-append}
use Rattle.mcs_ticks.specs.declared.row.Row.{Row}
use Rattle.mcs_ticks.specs.Given.{Given}
use Rattle.mcs_system.specs.System.{System}
use Rattle.mcs_core.specs.Clock.{schedule}
use Rattle.mcs_report.specs.Tally.{Tally, added, opened_tally, Counts}
use Rattle.mcs_report.specs.laws.Agreement.{tally_of}
use Rattle.mcs_step.specs.Steps.{Steps, IsOver, IsToldBetween, opening_steps, rows_before, rows_so_far}
use Rattle.mcs_step.proofs.Rows.{rows-end}

-- a sink that has a tally of its rows
module _ {S : Type 0} (tally : S → Tally) where
  abbrev pub CountsIn : S → Row → Bool → S → Type 0
  CountsIn before row taken after = Counts (tally before) row taken (tally after)

  pub counts-all : (s t : S) (rows : List Row) → Given CountsIn s rows t → tally t ≡ fold added (tally s) rows
  counts-all s t [] g = ap tally (sym g)
  counts-all s t (row ∷ rows) g = counts-all g.0 t rows g.2 ∙ ap (λ counted. fold added counted rows) g.1.1

-- between two rounds: the rows so far were counted
pub record IsCounted (system : System) (horizon : ℕ) (steps : Steps) (tally : Tally) : Type 0 where
  pub system_is : steps.system ≡ system
  pub horizon_is : steps.horizon ≡ horizon
  pub going : steps.failed ≡ false
  pub counted : tally ≡ tally_of system horizon (rows_so_far steps)

pub counted-first : (steps : Steps) (tally : Tally) → steps ≡ opening_steps steps.system steps.horizon → tally ≡ opened_tally steps.system steps.horizon → IsCounted steps.system steps.horizon steps tally
counted-first steps tally e opened =
    record {
      system_is = refl;
      horizon_is = refl;
      going = ap (λ (s : Steps). s.failed) e;
      counted = opened ∙ subst (λ (s : Steps). opened_tally steps.system steps.horizon ≡ tally_of steps.system steps.horizon (rows_so_far s)) (sym e) refl;
    }

module _ (system : System) (horizon : ℕ) where
  pub counted-next : {S : Type 0} (tally : S → Tally) (before after : S) (steps later : Steps) → IsCounted system horizon steps (tally before) →
      later.system ≡ steps.system → later.horizon ≡ steps.horizon → later.failed ≡ false → IsToldBetween (CountsIn tally) steps later before after →
      IsCounted system horizon later (tally after)
  counted-next tally before after steps later is system_same horizon_same going told =
      record {
        system_is = system_same ∙ is.system_is;
        horizon_is = horizon_same ∙ is.horizon_is;
        going = going;
        counted =
            counts-all tally before after told.0 told.2
            ∙ ap (λ counted. fold added counted told.0) is.counted
            ∙ sym (fold-append added (opened_tally system horizon) (rows_so_far steps) told.0)
            ∙ ap (tally_of system horizon) told.1;
      }

  pub counted-over : (steps : Steps) (tally : Tally) → IsCounted system horizon steps tally → IsOver steps → tally ≡ tally_of system horizon (schedule system horizon)
  counted-over steps tally is over =
      is.counted
      ∙ ap (tally_of system horizon)
      (ap (rows_before steps.system steps.moment) over.core_is ∙ rows-end steps.system steps.moment steps.horizon over.moment_is
      ∙ ap (λ (s : System). schedule s steps.horizon) is.system_is ∙ ap (schedule system) is.horizon_is)
