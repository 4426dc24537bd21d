use Rattle.std.proofs.Common.{◌≡◌, ◌++◌, drop, flat_map}
use Rattle.mcs_check_lines.specs.Formats.{hint_line}
use Rattle.mcs_check.proofs.rest.put_hints.Given as goal

abbrev pub invariant-loop-hint : goal.invariant-loop-hint
invariant-loop-hint l =
    l.text.items ++ flat_map (hint_line l.format l.system) (drop l.hint-index l.hints) ≡ l.initial.text.items ++ flat_map (hint_line l.format l.system) l.hints
