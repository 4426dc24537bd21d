use Rattle.std.proofs.Common.{take}
use Rattle.mcs_window.specs.stored.Delivery.{AreDelivered}
use Rattle.mcs_step.specs.stored.Cores.{AreLowered}
use Rattle.mcs_step.proofs.busy.deliver.Given as goal

abbrev pub invariant-loop-mail : goal.invariant-loop-mail
invariant-loop-mail l = record {
  delivered : AreDelivered l.system (take l.mail-index l.signals) l.fn.boxes l.boxes;
  lowered : AreLowered l.system (take l.mail-index l.signals) l.fn.next l.next;
}
