use Rattle.std.proofs.Common.{ap, sym, subst, ◌∙◌, arith, ◌<◌, ◌≤◌, ◌+◌, length}
use Rattle.mcs_mail.specs.Box.{Content, put}
use Rattle.mcs_mail.proofs.Merging.{when_ok}
use Rattle.mcs_window.proofs.Deliveries.{delivered-more}
use Rattle.mcs_window.proofs.Settling.{room-less}
use Rattle.mcs_window.proofs.delivery.deliver_reserved.Goals as goal

pub loop-mail-preserved : goal.loop-mail-preserved
loop-mail-preserved c =
    let h = c.put.inside.0 in
    let home = c.put.view_is ∙ c.home_of.ensures.home in
    let known : h < length c.args.boxes.now = (let cores = c.requires.many in let there = c.home_of.ensures.known in let same = c.put.view_is in omega arith) in
    let done = sym c.is_ok-put.ensures.value ∙ c.if-prove.false in
    let many = c.loop-mail.invariant.delivered.many in
    record {
      delivered = delivered-more c.args.system.now c.args.signals.now c.loop-mail.mail-index h c.mail-item.result c.args.boxes.now c.loop-mail.boxes c.put-in-loop-mail.new.self c.index-boxes-home_of.result
          c.loop-mail.invariant.delivered (omega arith) c.mail-item.is home known c.index-boxes-home_of.is
          (when_ok _ _ done c.put-in-loop-mail.ensures.ok ∙ ap (λ (held : Content). put c.mail-item.result held.mails) (sym c.index-boxes-home_of.is));
      room = room-less c.args.system.now c.args.signals.now c.loop-mail.mail-index h c.mail-item.result c.loop-mail.boxes c.index-boxes-home_of.result c.put-in-loop-mail.new.self
          (omega arith) c.mail-item.is home (omega arith) c.index-boxes-home_of.is (subst (λ (held : Content). held.spare ≤ c.put-in-loop-mail.new.self.spare + 1) (sym c.index-boxes-home_of.is) (when_ok _ _ done c.put-in-loop-mail.ensures.spare)) c.loop-mail.invariant.room;
    }
