use Rattle.std.proofs.Common.{◌≡◌, ◌++◌}
use Rattle.std.specs.List.{filter_map}
use Rattle.mcs_hints.specs.Numbers.{numbers}
use Rattle.mcs_hints.specs.Cores.{unused}
use Rattle.mcs_hints.proofs.cores.keep_unused.Given as goal

abbrev pub invariant-loop-core : goal.invariant-loop-core
invariant-loop-core l = l.hints.items ≡ l.initial.hints.items ++ filter_map (unused l.parts) (numbers l.core)
