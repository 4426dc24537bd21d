use Rattle.std.proofs.Common.{◌≡◌, drop}
use Rattle.mcs_verdict.specs.Calls.{handled}
use Rattle.mcs_verdict.proofs.heard.called_for.Given as goal

abbrev pub invariant-loop-i : goal.invariant-loop-i
invariant-loop-i l = handled l.bits (drop l.i l.script) ≡ handled 0 (drop 1 l.script)
