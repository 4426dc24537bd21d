use Rattle.mcs_check_lines.proofs.format.put_shown.Goals as goal

pub returns-in-Job-clause-ok : goal.returns-in-Job-clause-ok
returns-in-Job-clause-ok c = rw c.in-Job.is c.put_job_as.ensures.ok
