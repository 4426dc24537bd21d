use Rattle.std.proofs.Common.{◌+◌, ◌∙◌, length, ap, sym, subst}
use Rattle.std.specs.Arc.{arc_value}
use Rattle.mcs_stretch.specs.Idle.{AreReached, IsIdleUntil}
use Rattle.mcs_window.specs.Progress.{Progress}
use Rattle.mcs_window.proofs.Skips.{at-clocks, all-reached, skipped_kept}
use Rattle.mcs_window.proofs.cores.Cores.skip_idle.Goals as goal

pub skip_all-requires-clause-at_clocks : goal.skip_all-requires-clause-at_clocks
skip_all-requires-clause-at_clocks c = rw (c.deref.ensures, c.deref_mut.ensures.value, c.deref_mut-2.ensures.value) (at-clocks c.self.inside c.self.invariant c.if-self.false)

pub skip_all-requires-clause-reached : goal.skip_all-requires-clause-reached
skip_all-requires-clause-reached c =
    subst (λ system. AreReached system c.deref_mut.result.now) (sym c.deref.ensures)
    (subst (AreReached (arc_value c.self.inside.system)) (sym c.deref_mut.ensures.value) (all-reached c.self.inside c.self.invariant c.if-self.false))

pub invariant_of-self : goal.invariant_of-self
invariant_of-self c =
    let a = c.self.inside in
    let P : Progress → Type 0 = λ p. IsIdleUntil p.system p.clocks (p.horizon + 1) c.idle_until-moment.result in
    let until = subst P (sym c.self.view_is) c.idle_until-moment.ensures in
    skipped_kept a c.self.invariant c.if-self.false c.idle_until-moment.result c.skip_all.new.clocks c.skip_all.new.states until.in_time until.idle
    (rw c.deref_mut.ensures.value at c.skip_all.ensures.clocks) (c.skip_all.ensures.many ∙ ap length c.deref_mut-2.ensures.value) (rw c.deref.ensures at c.skip_all.ensures.at_clocks)
