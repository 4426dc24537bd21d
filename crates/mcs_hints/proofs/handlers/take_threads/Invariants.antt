use Rattle.std.proofs.Common.{◌≡◌, ℕ, map, take}
use Rattle.mcs_hints.specs.Numbers.{numbers}
use Rattle.mcs_hints.specs.Handlers.{taken_from}
use Rattle.mcs_hints.proofs.handlers.take_threads.Given as goal

abbrev pub invariant-loop-thread : goal.invariant-loop-thread
invariant-loop-thread l =
    (notes : ℕ) → l.initial.taken ≡ map (λ note. 0) (numbers notes)
    → l.taken ≡ map (taken_from (take l.thread-index l.threads)) (numbers notes)
