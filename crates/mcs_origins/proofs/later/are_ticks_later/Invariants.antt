use Rattle.std.proofs.Common.{◌≡◌, take}
use Rattle.mcs_origins.specs.Later.{later_origins}
use Rattle.mcs_origins.proofs.later.are_ticks_later.Given as goal

abbrev pub invariant-loop-i : goal.invariant-loop-i
invariant-loop-i l = take l.i l.after ≡ later_origins l.by (take l.i l.before)
