use Rattle.std.proofs.Common.{◌≡◌}
use Rattle.mcs_tests_parts.proofs.ready.make_all.Given as goal

abbrev pub invariant-loop-step : goal.invariant-loop-step
invariant-loop-step g l = l.ready.room ≡ 6
