use Rattle.mcs_ever.specs.stored.Makers.{IsWithin}
use Rattle.mcs_ever.proofs.Closing.{missing_in}
use Rattle.mcs_ever.proofs.closed.closed_set.Given as goal

abbrev pub invariant-loop-maker : goal.invariant-loop-maker
invariant-loop-maker l = IsWithin l.makers l.fn.core l.set

abbrev pub decreases-loop-maker : goal.decreases-loop-maker
decreases-loop-maker l = missing_in l.set
