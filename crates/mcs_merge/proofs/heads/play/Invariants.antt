use Rattle.mcs_merge.proofs.Trees.{IsPlaying}
use Rattle.mcs_merge.proofs.heads.play.Given as goal

abbrev pub invariant-up : goal.invariant-up
invariant-up l = IsPlaying l.fn.inner l.place l.fn.core l.fn.head l.fn.nodes l.nodes

abbrev pub decreases-up : goal.decreases-up
decreases-up l = l.place
