use Rattle.std.proofs.Common.{◌<◌, ◌≤◌, ◌∙◌, arith, ap, sym, subst, length}
use Rattle.mcs_mail.specs.Box.{Content}
use Rattle.mcs_system.specs.System.{System}
use Rattle.mcs_window.proofs.Settling.{room-next, same_mail-set}
use Rattle.mcs_window.proofs.delivery.make_room.Goals as goal

pub loop-core-preserved : goal.loop-core-preserved
loop-core-preserved c =
    let k = c.loop-core.core in
    let there : k < length c.loop-core.boxes = (let many = c.loop-core.invariant.same.many in let cores = c.requires in let same = c.parts.ensures.same in let here = ap (λ (s : System). s.cores) same in let end = c.loop-core.auto.core-end in let test = c.loop-core-test.true in omega arith) in
    let few : k < 64 = (let few = c.parts.ensures.well_formed.limits.cores.1 in let end = c.loop-core.auto.core-end in let test = c.loop-core-test.true in omega arith) in
    record {
      same = same_mail-set c.args.boxes.now c.loop-core.boxes k c.index-boxes-core.result c.make_room_for.new.mailbox c.loop-core.invariant.same there c.index-boxes-core.is
          (c.make_room_for.ensures.mails ∙ ap (λ (y : Content). y.mails) (sym c.index-boxes-core.is));
      room = room-next c.args.system.now c.args.signals.now k c.loop-core.boxes c.make_room_for.new.mailbox there
          (subst (λ n. n ≤ c.make_room_for.new.mailbox.spare) (c.counts_for-counts.ensures k few) c.in_ok-make_room_for.ensures.spare) c.loop-core.invariant.room;
    }
