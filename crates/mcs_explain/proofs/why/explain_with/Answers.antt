use Rattle.mcs_explain.proofs.why.explain_with.Goals as goal

-- the file is the source, from its opening to the end of the answer
pub returns-in-Ok-clause-file : goal.returns-in-Ok-clause-file
returns-in-Ok-clause-file g c = rw c.in-Some.is (_, _, _, _, rw c.new-source.ensures.given at c.explain.ensures.explained)
