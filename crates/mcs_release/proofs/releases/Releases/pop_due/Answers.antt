use Rattle.std.proofs.Common.{◌∙◌, Option, ap, refl, sym}
use Rattle.std.specs.Prelude.{IsTrue}
use Rattle.mcs_ticks.specs.Soonest.{HasCome}
use Rattle.mcs_release.specs.declared.dated.Dated.{Dated}
use Rattle.mcs_release.specs.Release.{next_date, thread_of, when_left}
use Rattle.mcs_release.proofs.Earliest.{first_due-come, first_due-later}
use Rattle.mcs_release.proofs.Kept.{same_value}
use Rattle.mcs_release.proofs.releases.Releases.pop_due.Goals as goal

pub returns-then-not-has_come-clause-first : goal.returns-then-not-has_come-clause-first
returns-then-not-has_come-clause-first c =
    let later : HasCome c.args.t (next_date c.args.self.now.queue) → ⊥ = λ come. let has : IsTrue c.has_come.result = c.has_come.ensures.1 (rw c.soonest.ensures come) in cc in
    sym (ap thread_of (first_due-later c.args.t c.args.self.now.queue later))

pub returns-then-not-has_come-clause-rest : goal.returns-then-not-has_come-clause-rest
returns-then-not-has_come-clause-rest c =
    let later : HasCome c.args.t (next_date c.args.self.now.queue) → ⊥ = λ come. let has : IsTrue c.has_come.result = c.has_come.ensures.1 (rw c.soonest.ensures come) in cc in
    same_value _ _ _ _ (sym (ap (λ (r : Option Dated). when_left r c.args.self.now.queue) (first_due-later c.args.t c.args.self.now.queue later))) refl

pub returns-clause-first : goal.returns-clause-first
returns-clause-first c =
    let come : HasCome c.args.t (next_date c.args.self.now.queue) = rw c.soonest.ensures at (c.has_come.ensures.0 c.if-not-has_come.false) in
    c.take_first.ensures.first ∙ sym (ap thread_of (first_due-come c.args.t c.args.self.now.queue come))

pub returns-clause-rest : goal.returns-clause-rest
returns-clause-rest c =
    let come : HasCome c.args.t (next_date c.args.self.now.queue) = rw c.soonest.ensures at (c.has_come.ensures.0 c.if-not-has_come.false) in
    c.take_first.ensures.rest
    ∙ same_value _ _ _ _ (sym (ap (λ (r : Option Dated). when_left r c.args.self.now.queue) (first_due-come c.args.t c.args.self.now.queue come))) refl
