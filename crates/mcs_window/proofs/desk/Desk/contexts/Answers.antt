use Rattle.std.proofs.Common.{◌≡◌, ◌∙◌, map, ap, sym, subst}
use Rattle.std.specs.Arc.{arc_value}
use Rattle.std.proofs.lemmas.List.{length-map}
use Rattle.mcs_window.specs.Desk.{Table, AllAreHere}
use Rattle.mcs_window.specs.Views.{views_at, AreShownAt}
use Rattle.mcs_window.specs.stored.Views.{state_in}
use Rattle.mcs_window.proofs.Dealing.{shown-here, slots-at, states-here, views-here}
use Rattle.mcs_window.proofs.Skipping.{all-stand}
use Rattle.mcs_window.proofs.desk.Desk.contexts.Given.{Over}
use Rattle.mcs_window.proofs.desk.Desk.contexts.Goals as goal

pub all_views-requires : goal.all_views-requires
all_views-requires g c =
    let a = c.self.inside in
    let s = arc_value a.system in
    let stand = slots-at s a.clocks a.slots.items c.self.invariant.slots_of (all-stand a c.self.invariant (subst AllAreHere (sym c.self.view_is) c.requires.here)) in
    rw (c.deref.ensures, c.deref-2.ensures.value) (states-here s a.clocks (map state_in a.slots.items) (length-map a.slots.items state_in ∙ c.self.invariant.slots_of) stand)

at : (g : Over) (c : goal.In_ok-views g) → c.in_ok-views.views.items ≡ views_at (arc_value c.self.inside.system) c.self.inside.clocks
at g c =
    let a = c.self.inside in
    let s = arc_value a.system in
    views-here s c.self.invariant.well_formed a.clocks (map state_in a.slots.items)
    (slots-at s a.clocks a.slots.items c.self.invariant.slots_of (all-stand a c.self.invariant (subst AllAreHere (sym c.self.view_is) c.requires.here)))
    c.in_ok-views.views.items (rw (c.deref.ensures, c.deref-2.ensures.value) at c.in_ok-views.ensures)

pub returns-clause-views : goal.returns-clause-views
returns-clause-views g c = at g c ∙ ap (λ (t : Table). views_at t.system t.clocks) c.self.view_is

pub returns-clause-budgets : goal.returns-clause-budgets
returns-clause-budgets g c =
    let a = c.self.inside in
    let P : Table → Type 0 = λ t. AreShownAt t.system t.clocks c.in_ok-views.views.items in
    subst P c.self.view_is (shown-here (arc_value a.system) c.self.invariant.well_formed a.clocks c.in_ok-views.views.items (at g c))
