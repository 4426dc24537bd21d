use Rattle.std.proofs.Common.{◌≡◌, ℕ, sym, ap, subst, ◌∙◌}
use Rattle.std.specs.Prelude.{Option, not}
use Rattle.mcs_ticks.specs.Soonest.{HasCome}
use Rattle.mcs_core.specs.Alarms.{first_date}
use Rattle.mcs_core.proofs.Ends.{not-come}
use Rattle.mcs_core.proofs.Ringing.{none-come, none-rung}
use Rattle.mcs_core.proofs.alarms.Alarms.take_ringing.Goals as goal

pub returns-then-not-has_come-clause-taken : goal.returns-then-not-has_come-clause-taken
returns-then-not-has_come-clause-taken c =
    let same : c.self.inside.soonest ≡ first_date c.args.self.now = c.self.invariant.0 ∙ ap first_date c.self.view_is in
    let P : Option ℕ → Type 0 = HasCome c.args.moment in
    sym (none-come c.args.moment c.args.self.now (λ h. not-come c.has_come.result _ c.has_come.ensures (ap not c.if-not-has_come.true) (subst P (sym same) h)))

pub returns-then-not-has_come-clause-left : goal.returns-then-not-has_come-clause-left
returns-then-not-has_come-clause-left c = sym (none-rung c.args.moment c.args.self.now (sym (returns-then-not-has_come-clause-taken c)))
