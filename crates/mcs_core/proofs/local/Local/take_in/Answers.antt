use Rattle.std.proofs.Common.{◌<◌, List, length, sym, ap, ◌∙◌, arith}
use Rattle.mcs_ticks.specs.Queue.{by_priority}
use Rattle.mcs_mail.specs.declared.mail.Mail.{Mail}
use Rattle.mcs_mail.specs.Box.{arriving}
use Rattle.mcs_mail.proofs.Boxes.{due-some, due-none, no_earlier-without_due}
use Rattle.mcs_core.specs.Turn.{each, arrives}
use Rattle.mcs_core.specs.stored.Sound.Phase.{PastTick}
use Rattle.mcs_core.proofs.Loops.{goes-step, goes-end, all-without_due, first-known, none-taken}
use Rattle.mcs_core.proofs.Systems.{one-each}
use Rattle.mcs_core.proofs.Wakes.{posts-sound}
use Rattle.mcs_core.proofs.local.Local.take_in.Goals as goal

pub mails-preserved : goal.mails-preserved
mails-preserved g c =
    let due = sym c.take_due.ensures.taken ∙ c.in-Some.is in
    let taken = due-some c.args.here.now.moment c.in-Some.next c.mails.mail.mails c.mails.invariant.come due in
    let known : c.in-Some.next.note < length c.args.here.now.system.now.notes =
    first-known (λ (mail : Mail). mail.note < length c.args.here.now.system.now.notes) c.args.here.now.moment c.in-Some.next c.mails.mail.mails c.mails.invariant.known due in
    record {
      sound = rw c.in_ok-arrive.ensures.core
          (posts-sound c.args.here.now.system.now c.args.here.now.core c.args.here.now.moment (one-each c.args.here.now.system.now c.requires.well_formed) PastTick c.args.here.now.moment c.in-Some.next.note c.in-Some.next.badge c.mails.self
          c.requires.soon (omega arith) (rw c.mails.invariant.sound.notes known) c.mails.invariant.sound);
      known = rw c.take_due.ensures.left (all-without_due (λ (mail : Mail). mail.note < length c.args.here.now.system.now.notes) c.args.here.now.moment c.mails.mail.mails c.mails.invariant.known);
      come = rw c.take_due.ensures.left (no_earlier-without_due c.args.here.now.moment c.args.here.now.moment c.mails.mail.mails c.mails.invariant.come);
      stay = rw c.take_due.ensures.left (sym taken.1 ∙ c.mails.invariant.stay);
      goes = goes-step c.args.here.now _ _ c.args.log.now c.mails.log c.arrive.new.log
          (arrives by_priority c.args.here.now.system.now c.args.here.now.moment c.in-Some.next c.mails.self)
          (each (arrives by_priority c.args.here.now.system.now c.args.here.now.moment) (arriving c.args.here.now.moment c.take_due.new.self.mails)) c.arrive.new.self
          c.mails.invariant.goes
          (rw c.take_due.ensures.left (ap (λ (ms : List Mail). each (arrives by_priority c.args.here.now.system.now c.args.here.now.moment) ms c.mails.self) taken.0))
          c.in_ok-arrive.ensures;
    }

pub returns-clause-makes : goal.returns-clause-makes
returns-clause-makes g c =
    let none = due-none c.args.here.now.moment c.mails.mail.mails c.take_due.ensures.in_order (sym c.take_due.ensures.taken ∙ c.in_default.is) in
    goes-end c.args.here.now _ _ c.args.log.now c.mails.log c.mails.self c.mails.invariant.goes
    (ap (λ (ms : List Mail). each (arrives by_priority c.args.here.now.system.now c.args.here.now.moment) ms c.mails.self) none.0)

pub returns-clause-mail : goal.returns-clause-mail
returns-clause-mail g c =
    let due = sym c.take_due.ensures.taken ∙ c.in_default.is in
    let none = due-none c.args.here.now.moment c.mails.mail.mails c.take_due.ensures.in_order due in
    c.take_due.ensures.left ∙ none-taken c.args.here.now.moment c.mails.mail.mails due ∙ sym none.1 ∙ c.mails.invariant.stay
