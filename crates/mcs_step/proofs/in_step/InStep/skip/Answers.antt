use Rattle.std.proofs.Common.{◌≡◌, ◌≤◌, ◌+◌, false, replicate, sym, subst}
use Rattle.std.specs.Arc.{arc_value}
use Rattle.mcs_stretch.specs.Idle.{IsIdleUntil}
use Rattle.mcs_step.specs.Steps.{Steps, rows_before, rows_so_far}
use Rattle.mcs_step.proofs.Passing.{first-later, idle-until, passed-kept, passed-rows}
use Rattle.mcs_step.proofs.in_step.InStep.skip.Goals as goal

pub invariant_of-self : goal.invariant_of-self
invariant_of-self c =
    let a = c.self.inside in
    let going : a.failed ≡ false = (let P : Steps → Type 0 = λ steps. steps.failed ≡ false in subst P (sym c.self.view_is) c.requires.going) in
    let none : a.place.core ≡ 0 = (let P : Steps → Type 0 = λ steps. steps.core ≡ 0 in subst P (sym c.self.view_is) c.requires.first) in
    passed-kept a c.self.invariant going none

pub returns-clause-moment : goal.returns-clause-moment
returns-clause-moment c =
    let a = c.self.inside in
    let going : a.failed ≡ false = (let P : Steps → Type 0 = λ steps. steps.failed ≡ false in subst P (sym c.self.view_is) c.requires.going) in
    let none : a.place.core ≡ 0 = (let P : Steps → Type 0 = λ steps. steps.core ≡ 0 in subst P (sym c.self.view_is) c.requires.first) in
    let Q : Steps → Type 0 = λ steps. IsIdleUntil steps.system (replicate steps.system.cores steps.moment) (steps.horizon + 1) a.first.moment in
    subst Q c.self.view_is (idle-until a c.self.invariant going none)

pub returns-clause-later : goal.returns-clause-later
returns-clause-later c =
    let a = c.self.inside in
    let going : a.failed ≡ false = (let P : Steps → Type 0 = λ steps. steps.failed ≡ false in subst P (sym c.self.view_is) c.requires.going) in
    let none : a.place.core ≡ 0 = (let P : Steps → Type 0 = λ steps. steps.core ≡ 0 in subst P (sym c.self.view_is) c.requires.first) in
    let Q : Steps → Type 0 = λ steps. steps.moment ≤ a.first.moment in
    subst Q c.self.view_is (first-later a c.self.invariant going none)

pub returns-clause-no_rows : goal.returns-clause-no_rows
returns-clause-no_rows c =
    let a = c.self.inside in
    let going : a.failed ≡ false = (let P : Steps → Type 0 = λ steps. steps.failed ≡ false in subst P (sym c.self.view_is) c.requires.going) in
    let none : a.place.core ≡ 0 = (let P : Steps → Type 0 = λ steps. steps.core ≡ 0 in subst P (sym c.self.view_is) c.requires.first) in
    let Q : Steps → Type 0 = λ steps. rows_before (arc_value a.system) a.first.moment 0 ≡ rows_so_far steps in
    subst Q c.self.view_is (passed-rows a c.self.invariant going none)
