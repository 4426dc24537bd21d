use Rattle.mcs_cli.proofs.file.run_with.Goals as goal

-- the file is the source, from its opening to the end of the run
pub returns-in-Ok-clause-file : goal.returns-in-Ok-clause-file
returns-in-Ok-clause-file g c = rw c.in-Some.is (_, _, _, _, rw c.new.ensures.given at c.run.ensures.run)
