use Rattle.std.proofs.Common.{◌≡◌, false, replicate}
use Rattle.mcs_ever.proofs.closed.no_makers.Given as goal

abbrev pub invariant-loop : goal.invariant-loop
invariant-loop l = l.makers.items ≡ replicate l.counter (replicate 64 false)
