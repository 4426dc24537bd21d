use Rattle.std.proofs.Common.{◌≡◌, ◌++◌, drop, flat_map}
use Rattle.mcs_way_lines.specs.Lines.{leg_text}
use Rattle.mcs_way_lines.proofs.way.append_legs.Given as goal

abbrev pub invariant-loop-leg : goal.invariant-loop-leg
invariant-loop-leg l =
    l.text.items ++ flat_map (leg_text l.system) (drop l.leg-index l.way) ≡ l.initial.text.items ++ flat_map (leg_text l.system) l.way
