use Rattle.mcs_ever_found.proofs.Findings.{findings-repeat}
use Rattle.mcs_ever_found.proofs.laws.findings_repeat.Goals as goal

pub returns : goal.returns
returns c = findings-repeat
