use Rattle.std.proofs.Common.{◌≡◌, ℕ, List, None, refl, sym, ap, subst}
use Rattle.std.specs.Prelude.{Option, not}
use Rattle.mcs_ticks.specs.Queue.{by_priority}
use Rattle.mcs_ticks.specs.Soonest.{HasCome}
use Rattle.mcs_mail.specs.declared.mail.Mail.{Mail}
use Rattle.mcs_mail.specs.Box.{due}
use Rattle.mcs_mail.proofs.Boxes.{due-none}
use Rattle.mcs_core.specs.Turn.{each, arrives}
use Rattle.mcs_core.specs.stored.Parts.{Makes}
use Rattle.mcs_core.proofs.Ends.{not-come}
use Rattle.mcs_core.proofs.Loops.{no-adds, no-mail-come}
use Rattle.mcs_core.proofs.local.Local.arrivals.Goals as goal

none : (g : _) (c : goal.Then-not-has_come g) → due c.args.here.now.moment c.args.mail.now.mails ≡ None
none g c =
    let P : Option ℕ → Type 0 = HasCome c.args.here.now.moment in
    no-mail-come c.args.here.now.moment c.args.mail.now.mails (λ h. not-come c.has_come.result _ c.has_come.ensures (ap not c.if-not-has_come.true) (subst P (sym c.soonest.ensures.first) h))

pub returns-then-not-has_come-clause-makes : goal.returns-then-not-has_come-clause-makes
returns-then-not-has_come-clause-makes g c =
    let P : List Mail → Type 0 = λ mails. Makes g.S.Sink.takes c.args.here.now (each (arrives by_priority c.args.here.now.system.now c.args.here.now.moment) mails c.args.self.now) c.args.self.now c.args.log.now c.args.log.now in
    subst P (sym (due-none c.args.here.now.moment c.args.mail.now.mails c.soonest.ensures.in_order (none g c)).0) (record { core = refl; adds = no-adds c.args.here.now c.args.log.now })

pub returns-then-not-has_come-clause-mail : goal.returns-then-not-has_come-clause-mail
returns-then-not-has_come-clause-mail g c = sym (due-none c.args.here.now.moment c.args.mail.now.mails c.soonest.ensures.in_order (none g c)).1
