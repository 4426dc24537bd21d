use Rattle.std.proofs.Common.{ℕ, ◌<◌, [], None}
use Rattle.mcs_core.specs.Clock.{core_at, world}
use Rattle.mcs_core.specs.Quiet.{IsNextBusy}
use Rattle.mcs_ever_search.proofs.rest.are_idle.Given as goal

abbrev pub invariant-loop-core : goal.invariant-loop-core
invariant-loop-core l =
    (core : ℕ) → core < l.core → IsNextBusy l.system core l.lockstep.clock [] (core_at l.system (world l.system l.lockstep.clock) core) None
