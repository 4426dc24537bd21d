use Rattle.std.proofs.Common.{◌≡◌}
use Rattle.std.specs.Prelude.{All}
use Rattle.mcs_merge.specs.Merge.{DoNotFall}
use Rattle.mcs_tests_team.proofs.orders.taken.Given as goal

abbrev pub invariant-loop-number : goal.invariant-loop-number
invariant-loop-number l = record { system_is : l.cores.system ≡ l.initial.cores.system; in_order : All (λ rows. DoNotFall rows.items) l.lists.items }
