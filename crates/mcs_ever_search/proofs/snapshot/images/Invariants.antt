use Rattle.std.proofs.Common.{◌≡◌}
use Rattle.std.specs.Prelude.{map}
use Rattle.std.specs.List.{range_with_len}
use Rattle.mcs_core.specs.Clock.{core_shown, world}
use Rattle.mcs_ever_search.proofs.snapshot.images.Given as goal

abbrev pub invariant-loop-core : goal.invariant-loop-core
invariant-loop-core l = l.images.items ≡ map (core_shown l.system (world l.system l.lockstep.clock)) (range_with_len 0 l.core)
