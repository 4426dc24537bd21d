use Rattle.std.proofs.Common.{◌≡◌, ◌++◌}
use Rattle.std.specs.List.{filter_map}
use Rattle.mcs_hints.specs.Numbers.{numbers}
use Rattle.mcs_hints.specs.Ceilings.{inverted}
use Rattle.mcs_hints.proofs.ceilings.keep_inverted.Given as goal

abbrev pub invariant-loop-thread : goal.invariant-loop-thread
invariant-loop-thread l = l.hints.items ≡ l.initial.hints.items ++ filter_map (inverted l.system) (numbers l.thread)
