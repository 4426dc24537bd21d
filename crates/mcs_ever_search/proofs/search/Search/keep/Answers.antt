use Rattle.std.proofs.Common.{sym, ap, subst, ◌∙◌}
use Rattle.std.specs.Arc.{arc_value}
use Rattle.mcs_system.specs.System.{System}
use Rattle.mcs_core.specs.Clock.{world}
use Rattle.mcs_ever_found.specs.Recurs.{past_before, watch_before}
use Rattle.mcs_ever_found.specs.Course.{course_of}
use Rattle.mcs_ever_search.specs.Together.{Together}
use Rattle.mcs_ever_search.specs.stored.Kept.{IsKeptOf}
use Rattle.mcs_ever_search.proofs.Keeping.{whole, settled-kept, settled-same, settled-whole, settled-mails, settled-watch, settled-course, kept-kept}
use Rattle.mcs_ever_search.proofs.search.Search.keep.Goals as goal

pub settle-requires : goal.settle-requires
settle-requires c = whole c.self.inside c.self.invariant c.if-self.false

pub new-requires-clause-same : goal.new-requires-clause-same
new-requires-clause-same c = settled-same c.self.inside c.self.invariant c.if-self.false c.settle.new.self c.settle.ensures ∙ sym c.deref.ensures

pub new-requires-clause-going : goal.new-requires-clause-going
new-requires-clause-going c = settled-whole c.self.inside c.self.invariant c.if-self.false c.settle.new.self c.settle.ensures

pub new-requires-clause-settled : goal.new-requires-clause-settled
new-requires-clause-settled c = ap (λ (t : Together). t.settled) c.settle.ensures

pub new-requires-clause-mails : goal.new-requires-clause-mails
new-requires-clause-mails c =
    let a = c.self.inside in
    settled-mails a c.self.invariant c.if-self.false c.settle.new.self c.settle.ensures (c.under_way_is_told.ensures (arc_value a.system) c.self.invariant.well_formed)
    ∙ ap (λ (s : System). (world s c.settle.new.self.clock).mails) (sym c.deref.ensures)

pub new-requires-clause-watch : goal.new-requires-clause-watch
new-requires-clause-watch c =
    let a = c.self.inside in
    settled-watch a c.self.invariant c.if-self.false c.settle.new.self c.settle.ensures ∙ ap (λ (s : System). watch_before s c.settle.new.self.clock) (sym c.deref.ensures)

pub new-requires-clause-course : goal.new-requires-clause-course
new-requires-clause-course c =
    let a = c.self.inside in
    settled-course a c.self.invariant c.if-self.false c.settle.new.self c.settle.ensures
    ∙ ap (λ (s : System). course_of s (past_before s c.settle.new.self.clock)) (sym c.deref.ensures)

pub invariant_of-self : goal.invariant_of-self
invariant_of-self c = settled-kept c.self.inside c.self.invariant c.if-self.false c.settle.new.self c.settle.ensures

pub invariant_of-self-2 : goal.invariant_of-self-2
invariant_of-self-2 c =
    let P : System → Type 0 = λ s. IsKeptOf s c.in_ok-kept.kept in
    let settled = settled-kept c.self.inside c.self.invariant c.if-self.false c.settle.new.self c.settle.ensures in
    kept-kept (record c.self.inside { lockstep = c.settle.new.self }) settled c.if-self.false c.in_ok-kept.kept c.clear.new.self (subst P c.deref.ensures c.in_ok-kept.ensures.kept)
    c.in_ok-kept.ensures.moment c.clear.ensures
