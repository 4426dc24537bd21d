use Rattle.std.proofs.Common.{◌≤◌}
use Rattle.mcs_script.specs.Script.{AreNotBare, first_to_look_at}
use Rattle.mcs_script.proofs.script.Script.bare_wait.Given as goal

abbrev pub invariant-loop-i : goal.invariant-loop-i
invariant-loop-i l = AreNotBare l.items l.i × (first_to_look_at l.items ≤ l.i)
