use Rattle.mcs_spin.proofs.Verdicts.{findings-spun}
use Rattle.mcs_spin.proofs.Worlds.{rows-spun}
use Rattle.mcs_spin.proofs.laws.findings_are_spun.Goals as goal

pub returns : goal.returns
returns c = findings-spun (λ system well. rows-spun system)
