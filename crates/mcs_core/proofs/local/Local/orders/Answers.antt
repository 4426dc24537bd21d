use Rattle.std.proofs.Common.{◌≡◌, ℕ, List, None, refl, sym, ap, subst}
use Rattle.std.specs.Prelude.{Option, not}
use Rattle.mcs_ticks.specs.Queue.{by_priority}
use Rattle.mcs_ticks.specs.Soonest.{HasCome}
use Rattle.mcs_control.specs.declared.config.Order.{Order}
use Rattle.mcs_core.specs.Turn.{each, obeys}
use Rattle.mcs_core.specs.Orders.{first_due}
use Rattle.mcs_core.specs.stored.Parts.{Makes}
use Rattle.mcs_core.proofs.Ends.{not-come}
use Rattle.mcs_core.proofs.Loops.{no-adds, no-order-come, none-due-now, none-due-later}
use Rattle.mcs_core.proofs.local.Local.orders.Goals as goal

none : (g : _) (c : goal.Then-not-has_come g) → first_due c.args.here.now.moment c.args.agenda.now ≡ None
none g c =
    let P : Option ℕ → Type 0 = HasCome c.args.here.now.moment in
    no-order-come c.args.here.now.moment c.args.agenda.now (λ h. not-come c.has_come.result _ c.has_come.ensures (ap not c.if-not-has_come.true) (subst P (sym c.next.ensures) h))

pub returns-then-not-has_come-clause-makes : goal.returns-then-not-has_come-clause-makes
returns-then-not-has_come-clause-makes g c =
    let P : List Order → Type 0 = λ orders. Makes g.S.Sink.takes c.args.here.now (each (obeys by_priority c.args.here.now.system.now c.args.here.now.moment) orders c.args.self.now) c.args.self.now c.args.log.now c.args.log.now in
    subst P (sym (none-due-now c.args.here.now.moment c.args.agenda.now c.requires.by_moment (none g c))) (record { core = refl; adds = no-adds c.args.here.now c.args.log.now })

pub returns-then-not-has_come-clause-agenda : goal.returns-then-not-has_come-clause-agenda
returns-then-not-has_come-clause-agenda g c = sym (none-due-later c.args.here.now.moment c.args.agenda.now c.requires.by_moment (none g c))
