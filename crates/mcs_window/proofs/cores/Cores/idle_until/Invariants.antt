use Rattle.std.proofs.Common.{◌+◌}
use Rattle.std.specs.Arc.{arc_value}
use Rattle.mcs_window.specs.stored.Cores.{AreIdleBelow}
use Rattle.mcs_window.proofs.cores.Cores.idle_until.Given as goal

abbrev pub invariant-loop-core : goal.invariant-loop-core
invariant-loop-core l =
    let a = l.self-inside in
    AreIdleBelow (arc_value a.system) a.clocks.items (a.horizon + 1) l.core l.until
