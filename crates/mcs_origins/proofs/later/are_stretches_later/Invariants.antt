use Rattle.std.proofs.Common.{◌≡◌, ◌≤◌, length}
use Rattle.mcs_origins.specs.Later.{later_set}
use Rattle.mcs_origins.specs.stored.Stretches.{flat, left}
use Rattle.mcs_origins.proofs.later.are_stretches_later.Given as goal

-- if what is left is later, all is
abbrev pub invariant-loop-earlier : goal.invariant-loop-earlier
invariant-loop-earlier l = record {
  rest : left l.after l.later ≡ later_set l.by (left l.before l.earlier) → flat l.after ≡ later_set l.by (flat l.before);
  before_within : l.earlier.many ≤ length l.before;
  after_within : l.later.many ≤ length l.after;
}

abbrev pub decreases-loop-earlier : goal.decreases-loop-earlier
decreases-loop-earlier l = length (left l.before l.earlier)
