use Rattle.std.proofs.Common.{◌≡◌, map, take}
use Rattle.mcs_chain.specs.Later.{later_sent}
use Rattle.mcs_chain.proofs.later.are_sent_later.Given as goal

abbrev pub invariant-loop-i : goal.invariant-loop-i
invariant-loop-i l = take l.i l.after ≡ map (later_sent l.by) (take l.i l.before)
