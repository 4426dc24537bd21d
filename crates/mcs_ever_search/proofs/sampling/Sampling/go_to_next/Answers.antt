use Rattle.std.proofs.Common.{subst}
use Rattle.mcs_ever_search.specs.Compared.{Compared}
use Rattle.mcs_ever_search.specs.Sampling.{StandsOn}
use Rattle.mcs_ever_search.proofs.Stepping.{stands-skipped}
use Rattle.mcs_ever_search.proofs.sampling.Sampling.go_to_next.Goals as goal

pub returns : goal.returns
returns c =
    subst (λ (compared : Compared). StandsOn compared c.skip-moment.new.self) c.stays.ensures
    (stands-skipped c.stays.new.compared c.skip-moment.new.self c.skip-moment.result c.skip-moment.ensures.later c.skip-moment.ensures.compared
    c.skip-moment.ensures.no_rows c.skip-moment.ensures.err)
