use Rattle.std.proofs.Common.{◌≡◌, ◌+◌, ◌≤◌, ◌++◌, length, reverse}
use Rattle.mcs_origins.specs.Sets.{join}
use Rattle.mcs_origins.specs.stored.Stretches.{flat, left}
use Rattle.mcs_origins.proofs.joining.pieces.Given as goal

-- what is joined so far, and then what is left of both sets
abbrev pub invariant-loop-both : goal.invariant-loop-both
invariant-loop-both l = record {
  whole : flat (reverse l.all.items) ++ join (left l.set l.both.set) (left l.others l.both.others) ≡ join (flat l.set) (flat l.others);
  set_within : l.both.set.many ≤ length l.set;
  others_within : l.both.others.many ≤ length l.others;
}

abbrev pub decreases-loop-both : goal.decreases-loop-both
decreases-loop-both l = length (left l.set l.both.set) + length (left l.others l.both.others)
