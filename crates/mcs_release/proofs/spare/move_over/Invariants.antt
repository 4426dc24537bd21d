use Rattle.mcs_release.proofs.Moving.{IsMoving}
use Rattle.mcs_release.proofs.spare.move_over.Given as goal

abbrev pub invariant-loop-place : goal.invariant-loop-place
invariant-loop-place l = IsMoving l.from l.fn.to l.to l.place
