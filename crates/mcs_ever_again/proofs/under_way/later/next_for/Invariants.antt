use Rattle.std.proofs.Common.{◌≡◌}
use Rattle.mcs_ever_again.proofs.Grouped.{rest}
use Rattle.mcs_ever_again.proofs.under_way.later.next_for.Given as goal

abbrev pub invariant-loop-i : goal.invariant-loop-i
invariant-loop-i l = rest l.system l.group l.store l.place ≡ rest l.system l.group l.store l.i
