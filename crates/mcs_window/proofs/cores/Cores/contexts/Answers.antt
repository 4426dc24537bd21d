use Rattle.std.proofs.Common.{◌≡◌, ◌∙◌, false, List, map, ap, sym, subst}
use Rattle.std.specs.Arc.{arc_value}
use Rattle.std.proofs.lemmas.List.{length-map}
use Rattle.mcs_core.specs.State.{State}
use Rattle.mcs_window.specs.Progress.{Progress}
use Rattle.mcs_window.specs.Views.{views_at, AreShownAt}
use Rattle.mcs_window.specs.declared.cores.Cores.TheInside.{Inside}
use Rattle.mcs_window.specs.stored.Cores.{AreAt, IsKept}
use Rattle.mcs_window.proofs.Dealing.{own-states, shown-here, states-here, views-here}
use Rattle.mcs_window.proofs.Skips.{at-clocks}
use Rattle.mcs_window.proofs.cores.Cores.contexts.Goals as goal

abbrev own : List State → List State
own = map (λ state. state)

stand : (a : Inside) → IsKept a → a.failed ≡ false → AreAt (arc_value a.system) a.clocks.items (own a.states.items)
stand a kept unspent = subst (AreAt (arc_value a.system) a.clocks.items) (sym (own-states a.states.items)) (at-clocks a kept unspent)

pub all_views-requires : goal.all_views-requires
all_views-requires c =
    let a = c.self.inside in
    rw (c.deref.ensures, c.deref-2.ensures.value) (states-here (arc_value a.system) a.clocks.items (own a.states.items) (length-map a.states.items (λ (state : State). state) ∙ c.self.invariant.states_of) (stand a c.self.invariant c.if-self.false))

at : (c : goal.In_ok-views) → c.in_ok-views.views.items ≡ views_at (arc_value c.self.inside.system) c.self.inside.clocks.items
at c =
    let a = c.self.inside in
    views-here (arc_value a.system) c.self.invariant.well_formed a.clocks.items (own a.states.items) (stand a c.self.invariant c.if-self.false)
    c.in_ok-views.views.items (rw (c.deref.ensures, c.deref-2.ensures.value) at c.in_ok-views.ensures)

pub returns-clause-views : goal.returns-clause-views
returns-clause-views c = at c ∙ ap (λ (p : Progress). views_at p.system p.clocks) c.self.view_is

pub returns-clause-budgets : goal.returns-clause-budgets
returns-clause-budgets c =
    let a = c.self.inside in
    let P : Progress → Type 0 = λ p. AreShownAt p.system p.clocks c.in_ok-views.views.items in
    subst P c.self.view_is (shown-here (arc_value a.system) c.self.invariant.well_formed a.clocks.items c.in_ok-views.views.items (at c))
