use Rattle.std.proofs.Common.{◌≤◌, List, length, sym, ap, subst, ◌∙◌, arith}
use Rattle.std.specs.Prelude.{IfSome}
use Rattle.std.specs.Arc.{arc_value}
use Rattle.mcs_system.specs.System.{System}
use Rattle.mcs_core.specs.Clock.{world}
use Rattle.mcs_core.specs.Core.{Core}
use Rattle.mcs_ever.specs.Recurs.{IsClosed}
use Rattle.mcs_ever.specs.Closed.{has}
use Rattle.mcs_ever_again.specs.Snapshot.{IsOfClock}
use Rattle.mcs_ever_again.specs.Period.{AreOfRun, RecursBetween}
use Rattle.mcs_ever_again.specs.declared.recurs.shifts.Shifts.{Shifts}
use Rattle.mcs_ever_search.specs.Compared.{Compared, RecursSince}
use Rattle.mcs_ever_search.specs.stored.Kept.{compared_of}
use Rattle.mcs_ever_search.proofs.Keeping.{same, whole, mails-are, of-run, since-kept, some-maps}
use Rattle.mcs_ever_search.proofs.Images.{images-many}
use Rattle.mcs_ever_search.proofs.search.Search.recurs.Goals as goal

pub may_stand_again-requires-clause-same : goal.may_stand_again-requires-clause-same
may_stand_again-requires-clause-same c = same c.self.inside c.self.invariant c.if-self.false ∙ sym c.deref-system.ensures

pub may_stand_again-requires-clause-going : goal.may_stand_again-requires-clause-going
may_stand_again-requires-clause-going c = whole c.self.inside c.self.invariant c.if-self.false

pub may_stand_again-requires-clause-many : goal.may_stand_again-requires-clause-many
may_stand_again-requires-clause-many c =
    let a = c.self.inside in
    ap (λ (cores : List Core). length cores) c.cores.ensures ∙ images-many (arc_value a.system) a.kept.snapshot c.self.invariant.kept.snapshot
    ∙ ap (λ (s : System). s.cores) (sym c.deref-system.ensures)

pub present-requires-clause-same : goal.present-requires-clause-same
present-requires-clause-same c = same c.self.inside c.self.invariant c.if-self.false ∙ sym c.deref-system.ensures

pub present-requires-clause-going : goal.present-requires-clause-going
present-requires-clause-going c = whole c.self.inside c.self.invariant c.if-self.false

pub present-requires-clause-mails : goal.present-requires-clause-mails
present-requires-clause-mails c =
    let a = c.self.inside in
    mails-are a c.self.invariant c.if-self.false (c.under_way_is_told.ensures (arc_value a.system) c.self.invariant.well_formed)
    ∙ ap (λ (s : System). (world s a.lockstep.clock).mails) (sym c.deref-system.ensures)

pub returns-clause-recurs : goal.returns-clause-recurs
returns-clause-recurs c =
    let a = c.self.inside in
    let s = arc_value a.system in
    let group = c.args.group.now in
    let present = c.in_ok-later.later in
    let found = c.in_ok-found.found in
    let past : a.orders_end ≤ a.kept.snapshot.moment = omega (arith, c.moment.ensures, c.get.ensures.value, c.if-get-self.false) in
    let I : System → Type 0 = λ s. IsOfClock s present in
    let is : IsOfClock s present = subst I c.deref-system.ensures c.in_ok-later.ensures.clock in
    let B : System → Type 0 = λ s. AreOfRun s group a.kept.snapshot present a.seen.marks →
    IfSome found (λ (shifts : Shifts). RecursBetween s group a.kept.snapshot present shifts) in
    let between = subst B c.deref-system.ensures c.in_ok-found.ensures in
    let R : Compared → Type 0 = λ t. IsClosed t.system (has group) → IfSome found (λ (shifts : Shifts). RecursSince t group shifts) in
    subst R c.self.view_is
    (λ closed.
    some-maps (λ shifts. RecursBetween s group a.kept.snapshot present shifts) (λ shifts. RecursSince (compared_of a) group shifts)
    (λ shifts. since-kept a c.self.invariant c.if-self.false group present shifts c.in_ok-later.ensures.moment) found
    (between (of-run a c.self.invariant c.if-self.false group present is c.in_ok-later.ensures.moment past closed)))
