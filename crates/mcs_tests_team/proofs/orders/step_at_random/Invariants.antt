use Rattle.std.proofs.Common.{◌≡◌, ◌<◌}
use Rattle.mcs_tests_team.proofs.orders.step_at_random.Given as goal

abbrev pub invariant-loop : goal.invariant-loop
invariant-loop l = record { system_is : l.cores.system ≡ l.initial.cores.system; small : l.number < 65536 }
