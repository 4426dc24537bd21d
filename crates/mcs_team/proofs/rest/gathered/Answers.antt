use Rattle.mcs_team.proofs.Giving.{known_on_ok}
use Rattle.mcs_team.proofs.rest.gathered.Goals as goal

pub returns-clause-waits : goal.returns-clause-waits
returns-clause-waits g c = λ out fits waits. known_on_ok c.retold.result (c.in_ok-add_found.ensures.waits out fits waits)
