use Rattle.std.proofs.Common.{◌≡◌}
use Rattle.mcs_ever_again.specs.stored.Store.{left, left_from}
use Rattle.mcs_ever_again.proofs.under_way.store.Store.is_empty.Given as goal

abbrev pub invariant-loop-i : goal.invariant-loop-i
invariant-loop-i l = left l.self ≡ left_from l.self l.i
