use Rattle.mcs_release.proofs.Tree.{IsRebuilding}
use Rattle.mcs_release.proofs.least.rebuild.Given as goal

abbrev pub invariant-loop-i : goal.invariant-loop-i
invariant-loop-i l = IsRebuilding l.inner l.fn.nodes l.nodes l.i
