use Rattle.std.proofs.Common.{take, drop}
use Rattle.mcs_window.specs.stored.Delivery.{AreDelivered, HaveRoom}
use Rattle.mcs_window.proofs.delivery.deliver_reserved.Given as goal

abbrev pub invariant-loop-mail : goal.invariant-loop-mail
invariant-loop-mail l = record {
  delivered : AreDelivered l.system (take l.mail-index l.signals) l.fn.boxes l.boxes;
  room : HaveRoom l.system (drop l.mail-index l.signals) l.boxes;
}
