use Rattle.std.proofs.Common.{◌≡◌}
use Rattle.mcs_ever_again.specs.Group.{for_group}
use Rattle.mcs_ever_again.specs.stored.Store.{left}
use Rattle.mcs_ever_again.proofs.Grouped.{rest}
use Rattle.mcs_ever_again.proofs.under_way.later.first_for.Given as goal

abbrev pub invariant-loop-i : goal.invariant-loop-i
invariant-loop-i l = for_group l.system l.group (left l.store) ≡ rest l.system l.group l.store l.i
