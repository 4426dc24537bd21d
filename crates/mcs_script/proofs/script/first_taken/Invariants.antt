use Rattle.std.proofs.Common.{◌≡◌, false, drop}
use Rattle.mcs_script.specs.Script.{first_taken}
use Rattle.mcs_script.proofs.script.first_taken.Given as goal

abbrev pub invariant-loop-i : goal.invariant-loop-i
invariant-loop-i l =
    first_taken l.word l.i l.passes (drop l.i l.items) ≡ first_taken l.word l.from false (drop l.from l.items)
