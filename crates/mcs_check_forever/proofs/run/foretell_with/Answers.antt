use Rattle.mcs_check_forever.proofs.run.foretell_with.Goals as goal

-- the file is the source, from its opening to the end of the look
pub returns-in-Ok-clause-file : goal.returns-in-Ok-clause-file
returns-in-Ok-clause-file g c = rw c.in-Some.is (_, _, _, _, rw c.new-source.ensures.given at c.foretell.ensures.foretold)
