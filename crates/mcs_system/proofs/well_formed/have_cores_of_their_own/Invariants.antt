use Rattle.mcs_system.proofs.Marks.{AreMarked}
use Rattle.mcs_system.proofs.Pairs.{pair_of}
use Rattle.mcs_system.proofs.well_formed.have_cores_of_their_own.Given as goal

abbrev pub invariant-loop-link : goal.invariant-loop-link
invariant-loop-link l = AreMarked pair_of l.links l.has_link l.link-index
