use Rattle.std.proofs.Common.{◌≡◌, ℕ, ◌++◌, List}
use Rattle.std.specs.List.{filter_map}
use Rattle.mcs_system.specs.declared.part.ThreadPart.{ThreadPart}
use Rattle.mcs_hints.specs.Numbers.{numbers}
use Rattle.mcs_hints.specs.Contexts.{unbound}
use Rattle.mcs_hints.specs.stored.Marks.{bounds_of}
use Rattle.mcs_hints.proofs.contexts.keep_unbound.Given as goal

abbrev pub invariant-loop-context : goal.invariant-loop-context
invariant-loop-context l =
    (contexts : ℕ) (threads : List ThreadPart) → l.bounds ≡ bounds_of contexts threads
    → l.hints.items ≡ l.initial.hints.items ++ filter_map (unbound threads) (numbers l.context)
