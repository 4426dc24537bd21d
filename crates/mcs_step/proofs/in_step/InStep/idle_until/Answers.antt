use Rattle.std.proofs.Common.{◌≡◌, ◌≤◌, ◌+◌, false, replicate, sym, subst}
use Rattle.mcs_stretch.specs.Idle.{IsIdleUntil}
use Rattle.mcs_step.specs.Steps.{Steps}
use Rattle.mcs_step.proofs.Passing.{first-later, idle-until}
use Rattle.mcs_step.proofs.in_step.InStep.idle_until.Goals as goal

pub returns-clause-moment : goal.returns-clause-moment
returns-clause-moment c =
    let a = c.self.inside in
    let going : a.failed ≡ false = (let P : Steps → Type 0 = λ steps. steps.failed ≡ false in subst P (sym c.self.view_is) c.requires.going) in
    let none : a.place.core ≡ 0 = (let P : Steps → Type 0 = λ steps. steps.core ≡ 0 in subst P (sym c.self.view_is) c.requires.first) in
    let Q : Steps → Type 0 = λ steps. IsIdleUntil steps.system (replicate steps.system.cores steps.moment) (steps.horizon + 1) a.first.moment in
    subst Q c.self.view_is (idle-until a c.self.invariant going none)

pub returns-clause-later : goal.returns-clause-later
returns-clause-later c =
    let a = c.self.inside in
    let going : a.failed ≡ false = (let P : Steps → Type 0 = λ steps. steps.failed ≡ false in subst P (sym c.self.view_is) c.requires.going) in
    let none : a.place.core ≡ 0 = (let P : Steps → Type 0 = λ steps. steps.core ≡ 0 in subst P (sym c.self.view_is) c.requires.first) in
    let Q : Steps → Type 0 = λ steps. steps.moment ≤ a.first.moment in
    subst Q c.self.view_is (first-later a c.self.invariant going none)
