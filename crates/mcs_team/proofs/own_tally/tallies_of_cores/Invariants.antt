use Rattle.std.proofs.Common.{◌≤◌, vec_capacity}
use Rattle.mcs_team.proofs.Tallies.{AreFirst}
use Rattle.mcs_team.proofs.own_tally.tallies_of_cores.Given as goal

abbrev pub invariant-loop-core : goal.invariant-loop-core
invariant-loop-core g l = AreFirst l.tallies.items (λ own. own.tally) (λ own. own.rows) l.core × (l.cores ≤ vec_capacity l.tallies)
