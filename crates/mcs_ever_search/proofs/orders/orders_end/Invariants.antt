use Rattle.std.proofs.Common.{take}
use Rattle.mcs_ever_search.proofs.Ending.{IsEnd}
use Rattle.mcs_ever_search.proofs.orders.orders_end.Given as goal

abbrev pub invariant-loop-order : goal.invariant-loop-order
invariant-loop-order l = IsEnd (take l.order-index l.parts.orders) l.end
