use Rattle.std.proofs.Common.{◌≡◌, false, length, ap, sym, ◌∙◌, subst}
use Rattle.std.specs.Arc.{arc_value}
use Rattle.mcs_stretch.specs.Idle.{AreIdle, AreReached}
use Rattle.mcs_step.specs.Steps.{Steps}
use Rattle.mcs_step.proofs.Passing.{all-idle, all-reached, all-stand, settled-kept, settled-shows}
use Rattle.mcs_step.proofs.in_step.InStep.settle.Goals as goal

pub skip_all-requires-clause-at_clocks : goal.skip_all-requires-clause-at_clocks
skip_all-requires-clause-at_clocks c =
    let a = c.self.inside in
    let going : a.failed ≡ false = (let P : Steps → Type 0 = λ steps. steps.failed ≡ false in subst P (sym c.self.view_is) c.requires.going) in
    let none : a.place.core ≡ 0 = (let P : Steps → Type 0 = λ steps. steps.core ≡ 0 in subst P (sym c.self.view_is) c.requires.first) in
    rw (c.deref.ensures, c.as_mut_slice.ensures.value, c.as_mut_slice-2.ensures.value) (all-stand a c.self.invariant going none)

pub skip_all-requires-clause-reached : goal.skip_all-requires-clause-reached
skip_all-requires-clause-reached c =
    let a = c.self.inside in
    let going : a.failed ≡ false = (let P : Steps → Type 0 = λ steps. steps.failed ≡ false in subst P (sym c.self.view_is) c.requires.going) in
    let none : a.place.core ≡ 0 = (let P : Steps → Type 0 = λ steps. steps.core ≡ 0 in subst P (sym c.self.view_is) c.requires.first) in
    subst (λ system. AreReached system c.as_mut_slice.result.now) (sym c.deref.ensures)
    (subst (AreReached (arc_value a.system)) (sym c.as_mut_slice.ensures.value) (all-reached a c.self.invariant going none))

pub skip_all-requires-clause-idle : goal.skip_all-requires-clause-idle
skip_all-requires-clause-idle c =
    let a = c.self.inside in
    let going : a.failed ≡ false = (let P : Steps → Type 0 = λ steps. steps.failed ≡ false in subst P (sym c.self.view_is) c.requires.going) in
    let none : a.place.core ≡ 0 = (let P : Steps → Type 0 = λ steps. steps.core ≡ 0 in subst P (sym c.self.view_is) c.requires.first) in
    subst (λ system. AreIdle system c.as_mut_slice.result.now a.place.moment) (sym c.deref.ensures)
    (subst (λ clocks. AreIdle (arc_value a.system) clocks a.place.moment) (sym c.as_mut_slice.ensures.value) (all-idle a c.self.invariant going none))

pub invariant_of-self : goal.invariant_of-self
invariant_of-self c =
    let a = c.self.inside in
    let going : a.failed ≡ false = (let P : Steps → Type 0 = λ steps. steps.failed ≡ false in subst P (sym c.self.view_is) c.requires.going) in
    let none : a.place.core ≡ 0 = (let P : Steps → Type 0 = λ steps. steps.core ≡ 0 in subst P (sym c.self.view_is) c.requires.first) in
    settled-kept a c.self.invariant going none c.skip_all.new.clocks c.skip_all.new.states (rw c.as_mut_slice.ensures.value at c.skip_all.ensures.clocks)
    (c.skip_all.ensures.many ∙ ap length c.as_mut_slice-2.ensures.value) (rw c.deref.ensures at c.skip_all.ensures.at_clocks)

pub returns : goal.returns
returns c =
    let a = c.self.inside in
    let going : a.failed ≡ false = (let P : Steps → Type 0 = λ steps. steps.failed ≡ false in subst P (sym c.self.view_is) c.requires.going) in
    let none : a.place.core ≡ 0 = (let P : Steps → Type 0 = λ steps. steps.core ≡ 0 in subst P (sym c.self.view_is) c.requires.first) in
    settled-shows a c.self.invariant going none c.skip_all.new.clocks c.skip_all.new.states (rw c.as_mut_slice.ensures.value at c.skip_all.ensures.clocks)
    (c.skip_all.ensures.many ∙ ap length c.as_mut_slice-2.ensures.value) (rw c.deref.ensures at c.skip_all.ensures.at_clocks) c.args.self.now c.self.view_is
