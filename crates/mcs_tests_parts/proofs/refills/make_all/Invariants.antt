use Rattle.std.proofs.Common.{◌≡◌}
use Rattle.mcs_tests_parts.proofs.refills.make_all.Given as goal

abbrev pub invariant-loop-call : goal.invariant-loop-call
invariant-loop-call g l = l.refills.room ≡ 4
