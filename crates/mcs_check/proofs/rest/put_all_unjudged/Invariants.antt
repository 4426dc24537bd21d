use Rattle.std.proofs.Common.{◌≡◌, ◌++◌, drop, flat_map}
use Rattle.mcs_check_lines.specs.Unjudged.{unjudged_line}
use Rattle.mcs_check.proofs.rest.put_all_unjudged.Given as goal

abbrev pub invariant-loop-unjudged : goal.invariant-loop-unjudged
invariant-loop-unjudged l =
    l.text.items ++ flat_map (unjudged_line l.format l.system) (drop l.unjudged-index l.all) ≡ l.initial.text.items ++ flat_map (unjudged_line l.format l.system) l.all
