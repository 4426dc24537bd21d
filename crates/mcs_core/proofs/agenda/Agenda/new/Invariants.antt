use Rattle.std.proofs.Common.{◌≡◌, take}
use Rattle.std.specs.Prelude.{filter}
use Rattle.mcs_core.specs.Orders.{is_for_core}
use Rattle.mcs_core.proofs.agenda.Agenda.new.Given as goal

abbrev pub invariant-loop-order : goal.invariant-loop-order
invariant-loop-order l = l.orders.items ≡ filter (is_for_core l.system l.core) (take l.order-index l.system.orders)
