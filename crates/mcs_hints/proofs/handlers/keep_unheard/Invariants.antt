use Rattle.std.proofs.Common.{◌≡◌, ◌++◌}
use Rattle.std.specs.List.{filter_map}
use Rattle.mcs_hints.specs.Numbers.{numbers}
use Rattle.mcs_hints.specs.Handlers.{unheard}
use Rattle.mcs_hints.proofs.handlers.keep_unheard.Given as goal

abbrev pub invariant-loop-thread : goal.invariant-loop-thread
invariant-loop-thread l = l.hints.items ≡ l.initial.hints.items ++ filter_map (unheard l.system) (numbers l.thread)
