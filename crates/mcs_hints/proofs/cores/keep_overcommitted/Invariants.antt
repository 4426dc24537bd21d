use Rattle.std.proofs.Common.{◌≡◌, ◌++◌}
use Rattle.std.specs.List.{filter_map}
use Rattle.mcs_hints.specs.Numbers.{numbers}
use Rattle.mcs_hints.specs.Cores.{overcommitted}
use Rattle.mcs_hints.proofs.cores.keep_overcommitted.Given as goal

abbrev pub invariant-loop-core : goal.invariant-loop-core
invariant-loop-core l = l.hints.items ≡ l.initial.hints.items ++ filter_map (overcommitted l.system) (numbers l.core)
