use Rattle.mcs_spin.proofs.Verdicts.{jobs-spun}
use Rattle.mcs_spin.proofs.Worlds.{rows-spun}
use Rattle.mcs_spin.proofs.laws.jobs_are_spun.Goals as goal

pub returns : goal.returns
returns c = jobs-spun (λ system well. rows-spun system)
