use Rattle.std.proofs.Common.{◌<◌, ◌≤◌, List, ℕ, subst, arith, rules}
use Rattle.mcs_step.specs.stored.Places.{IsFirst}
use Rattle.mcs_step.proofs.Groups.{first-of-all}
use Rattle.mcs_step.proofs.calendar.Calendar.first.Goals as goal

pub returns : goal.returns
returns c =
    let l = c.loop-other in
    let next = c.self.inside.next in
    let P : List ℕ → Type 0 = λ next. IsFirst next (record { moment = l.moment; core = c.first_of-core.result }) in
    let end : 8 ≤ l.other = search rules in
    let known : l.group < 8 = search rules in
    subst P c.self.view_is
    (first-of-all next c.self.inside.soonest c.self.invariant l.group (record { moment = l.moment; core = c.first_of-core.result }) known l.invariant.is l.invariant.before
    (λ h p q. l.invariant.from h p (omega arith)) c.first_of-core.ensures)
