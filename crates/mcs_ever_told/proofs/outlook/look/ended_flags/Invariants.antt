use Rattle.std.proofs.Common.{◌≡◌, false, map, get_or}
use Rattle.std.specs.List.{range_with_len}
use Rattle.mcs_ever_told.proofs.outlook.look.ended_flags.Given as goal

abbrev pub invariant-loop-thread : goal.invariant-loop-thread
invariant-loop-thread l = l.flags.items ≡ map (λ thread. get_or l.doings.ended thread false) (range_with_len 0 l.thread)
