use Rattle.std.proofs.Common.{◌≡◌, None, replicate}
use Rattle.mcs_ever_told.proofs.outlook.tell.nothing_told.Given as goal

abbrev pub invariant-loop : goal.invariant-loop
invariant-loop l = l.told.items ≡ replicate l.counter None
