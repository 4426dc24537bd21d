use Rattle.mcs_table.proofs.Runs.{jobs-the_runs}
use Rattle.mcs_table.proofs.laws.jobs_are_the_runs.Goals as goal

pub returns : goal.returns
returns c = jobs-the_runs
