use Rattle.mcs_script.specs.Script.{GoOn}
use Rattle.mcs_script.proofs.script.left_open.Given as goal

abbrev pub invariant-loop-i : goal.invariant-loop-i
invariant-loop-i l = GoOn l.items l.i
