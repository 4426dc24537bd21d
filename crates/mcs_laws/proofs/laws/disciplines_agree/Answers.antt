use Rattle.mcs_core.proofs.QuietAlike.{quiet-alike}
use Rattle.mcs_laws.proofs.Disciplines.{disciplines-agree, runs-agree}
use Rattle.mcs_laws.proofs.laws.disciplines_agree.Goals as goal

pub returns-clause-clocks : goal.returns-clause-clocks
returns-clause-clocks c = disciplines-agree

pub returns-clause-runs : goal.returns-clause-runs
returns-clause-runs c = runs-agree

pub returns-clause-quiet : goal.returns-clause-quiet
returns-clause-quiet c = λ system number t mails core. quiet-alike system number t mails core
