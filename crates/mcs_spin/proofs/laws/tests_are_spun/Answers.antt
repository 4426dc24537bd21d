use Rattle.mcs_spin.proofs.Verdicts.{tests-spun}
use Rattle.mcs_spin.proofs.Worlds.{rows-spun}
use Rattle.mcs_spin.proofs.laws.tests_are_spun.Goals as goal

pub returns : goal.returns
returns c = tests-spun (λ system well. rows-spun system)
