use Rattle.std.proofs.Common.{ℕ, suc, ◌≡◌, ◌+◌, ◌<◌, ◌∙◌, List, ap, sym, subst, arith}
use Rattle.std.specs.Arc.{arc_value}
use Rattle.mcs_control.specs.declared.view.ContextView.{ContextView}
use Rattle.mcs_system.specs.System.{System}
use Rattle.mcs_system.specs.WellFormed.{IsWellFormed}
use Rattle.mcs_window.specs.Desk.{Table, opening_table, IsFinished, IsLater}
use Rattle.mcs_window.specs.Views.{views_at, views_before}
use Rattle.mcs_window.proofs.Dealing.{views-at_one}
use Rattle.mcs_window.proofs.Shown.{views-shown}
use Rattle.mcs_team.specs.Headline.{BudgetsStand}
use Rattle.mcs_team.proofs.Endings.{ends}
use Rattle.mcs_team.proofs.whole.probe.Goals as goal

at-end : (system : System) (t : ℕ) (start desk : Table) (views : List ContextView) → IsWellFormed system → start ≡ opening_table system t → IsLater start desk → IsFinished desk →
    views ≡ views_at desk.system desk.clocks → views ≡ views_before system (t + 1)
at-end system t start desk views well opened later finished are =
    are ∙ ap (λ s. views_at s desk.clocks) same
    ∙ views-at_one system well desk.clocks (t + 1) (λ c l. finished c (subst (λ (s : System). c < s.cores) (sym same) l) ∙ ap (λ n. n + 1) end)
  where
    same : desk.system ≡ system
    same = later.system_is ∙ ap (λ (table : Table). table.system) opened

    end : desk.horizon ≡ t
    end = later.horizon_is ∙ ap (λ (table : Table). table.horizon) opened

stand : (system : System) (t : ℕ) (views : List ContextView) → IsWellFormed system → views ≡ views_before system (t + 1) → BudgetsStand system t views
stand system t views well e =
    let n : t + 1 ≡ suc t = omega arith in
    subst (BudgetsStand system t) (sym (e ∙ ap (views_before system) n)) (views-shown system well (λ c. suc t))

pub returns-clause-views : goal.returns-clause-views
returns-clause-views c =
    at-end (arc_value c.args.system) c.args.t c.in_ok-desk.desk c.go.new.self c.in_ok-views.views.items (rw c.deref.ensures at c.parts.ensures.well_formed) c.in_ok-desk.ensures c.in_ok-go.ensures.later
    (ends c.go.new.self c.in_ok-go.ensures.enough (omega arith)) c.in_ok-views.ensures.views

pub returns-clause-budgets : goal.returns-clause-budgets
returns-clause-budgets c = stand (arc_value c.args.system) c.args.t c.in_ok-views.views.items (rw c.deref.ensures at c.parts.ensures.well_formed) (returns-clause-views c)
