use Rattle.std.proofs.Common.{◌≡◌, ◌++◌, drop}
use Rattle.mcs_check_lines.specs.Told.{found_lines}
use Rattle.mcs_check.proofs.rest.put_all.Given as goal

abbrev pub invariant-loop-found : goal.invariant-loop-found
invariant-loop-found l =
    l.text.items ++ found_lines l.format l.system l.allowed (drop l.found-index l.all) ≡ l.initial.text.items ++ found_lines l.format l.system l.allowed l.all
