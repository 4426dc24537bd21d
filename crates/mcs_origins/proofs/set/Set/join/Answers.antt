-- No origins are joined with.
use Rattle.std.proofs.Common.{arith}
use Rattle.std.proofs.lemmas.Grind.{common_steps}
use Rattle.mcs_origins.proofs.Joins.{join-none}
use Rattle.mcs_origins.proofs.set.Set.join.Goals as goal

pub returns-in_ok-self-inside-in-Empty-clause-ok : goal.returns-in_ok-self-inside-in-Empty-clause-ok
returns-in_ok-self-inside-in-Empty-clause-ok c = grind (arith, common_steps, join-none)
