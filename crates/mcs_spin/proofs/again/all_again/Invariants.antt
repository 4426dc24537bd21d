use Rattle.std.proofs.Common.{◌≡◌, ◌++◌, drop}
use Rattle.mcs_spin.proofs.again.all_again.Given as goal

abbrev pub invariant-loop-thing : goal.invariant-loop-thing
invariant-loop-thing g l = l.copies.items ++ drop l.thing-index l.thing-items ≡ l.thing-items
