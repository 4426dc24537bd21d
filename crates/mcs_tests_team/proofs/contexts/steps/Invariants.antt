use Rattle.std.proofs.Common.{◌≡◌}
use Rattle.mcs_tests_team.proofs.contexts.steps.Given as goal

abbrev pub invariant-loop : goal.invariant-loop
invariant-loop l = l.cores.system ≡ l.initial.cores.system
