-- The invariant of `Lockstep` when idle time passes.
use Rattle.std.proofs.Common.{◌≡◌, ℕ, ◌+◌, ◌≤◌, false, replicate, refl, sym, ap, ◌∙◌, subst}
use Rattle.std.specs.Arc.{arc_value}
use Rattle.mcs_system.specs.System.{System}
use Rattle.mcs_window.specs.Idle.{IsIdleUntil}
use Rattle.mcs_step.specs.Steps.{Steps, rows_so_far}
use Rattle.mcs_ever_search.specs.Together.{clocks_at, rows_before}
use Rattle.mcs_ever_search.specs.stored.Lockstep.{AreBefore, IsKept}
use Rattle.mcs_ever_search.specs.declared.lockstep.Lockstep.TheInside.{Inside}
use Rattle.mcs_ever_search.proofs.Turning.{rows-here}

module _ (a : Inside) (kept : IsKept a) (going : a.failed ≡ false) where
  before : AreBefore (arc_value a.system) a.horizon a.clock a.steps
  before = kept.together going

  pub none-turned : a.steps.core ≡ 0
  none-turned = before.is_before.core_is

  pub still-going : a.steps.failed ≡ false
  still-going = before.is_before.going

  pub idle-until : (moment : ℕ) → IsIdleUntil a.steps.system (replicate a.steps.system.cores a.steps.moment) (a.steps.horizon + 1) moment →
      IsIdleUntil (arc_value a.system) (clocks_at (arc_value a.system) a.clock) (a.horizon + 1) moment
  idle-until moment until =
      let S : System → Type 0 = λ s. IsIdleUntil s (replicate s.cores a.steps.moment) (a.steps.horizon + 1) moment in
      let H : ℕ → Type 0 = λ h. IsIdleUntil (arc_value a.system) (replicate (arc_value a.system).cores a.steps.moment) (h + 1) moment in
      let T : ℕ → Type 0 = λ t. IsIdleUntil (arc_value a.system) (replicate (arc_value a.system).cores t) (a.horizon + 1) moment in
      subst T before.moment_is (subst H before.horizon_is (subst S before.system_is until))

  pub not-back : (moment : ℕ) → a.steps.moment ≤ moment → a.clock ≤ moment
  not-back moment l = subst (λ t. t ≤ moment) before.moment_is l

  -- idle time passes
  module _ (moment : ℕ) (after : Steps) (at : after ≡ record a.steps { moment = moment }) where
    there : AreBefore (arc_value a.system) a.horizon moment after
    there =
        record {
          system_is = ap (λ (s : Steps). s.system) at ∙ before.system_is;
          horizon_is = ap (λ (s : Steps). s.horizon) at ∙ before.horizon_is;
          moment_is = ap (λ (s : Steps). s.moment) at;
          is_before = record { core_is = ap (λ (s : Steps). s.core) at ∙ before.is_before.core_is; going = ap (λ (s : Steps). s.failed) at ∙ before.is_before.going };
        }

    pub no-rows : rows_so_far after ≡ rows_so_far a.steps → rows_before (arc_value a.system) moment ≡ rows_before (arc_value a.system) a.clock
    no-rows e =
        sym (ap (λ s. rows_before s after.moment) there.system_is ∙ ap (rows_before (arc_value a.system)) there.moment_is)
        ∙ sym (rows-here after there.is_before.core_is) ∙ e ∙ rows-here a.steps before.is_before.core_is
        ∙ ap (λ s. rows_before s a.steps.moment) before.system_is ∙ ap (rows_before (arc_value a.system)) before.moment_is

    pub passed-kept : moment ≤ a.horizon + 1 → IsKept (record a { steps = after; clock = moment; settled = false })
    passed-kept in_time =
        record {
          horizon = kept.horizon;
          in_time = in_time;
          well_formed = kept.well_formed;
          together = λ _. there;
          lagging = λ _. refl;
          settled = λ _ e. cc;
        }
