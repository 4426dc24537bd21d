use Rattle.mcs_system.proofs.Distinct.{DifferBelow}
use Rattle.mcs_system.proofs.well_formed.have_distinct_names.Given as goal

abbrev pub invariant-loop-i : goal.invariant-loop-i
invariant-loop-i g l = DifferBelow g.T.Named.name l.things l.i
