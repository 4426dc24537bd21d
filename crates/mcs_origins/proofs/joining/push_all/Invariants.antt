use Rattle.std.proofs.Common.{◌≡◌, ◌++◌, drop, reverse}
use Rattle.mcs_origins.specs.stored.Stretches.{flat}
use Rattle.mcs_origins.proofs.joining.push_all.Given as goal

abbrev pub invariant-loop-i : goal.invariant-loop-i
invariant-loop-i l = flat l.all.items ≡ flat (reverse (drop l.i l.pieces)) ++ flat l.initial.all.items
