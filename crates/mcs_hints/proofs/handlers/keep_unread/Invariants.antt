use Rattle.std.proofs.Common.{◌≡◌, ◌++◌}
use Rattle.std.specs.List.{filter_map}
use Rattle.mcs_hints.specs.Numbers.{numbers}
use Rattle.mcs_hints.specs.Handlers.{unread}
use Rattle.mcs_hints.proofs.handlers.keep_unread.Given as goal

abbrev pub invariant-loop-source : goal.invariant-loop-source
invariant-loop-source l = l.hints.items ≡ l.initial.hints.items ++ filter_map (unread l.system) (numbers l.source)
