use Rattle.mcs_ever_found.proofs.Findings.{job-tests-are-forever}
use Rattle.mcs_ever_found.proofs.laws.job_tests_are_forever.Goals as goal

pub returns : goal.returns
returns c = job-tests-are-forever
