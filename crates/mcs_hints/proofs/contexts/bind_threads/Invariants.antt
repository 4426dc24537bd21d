use Rattle.std.proofs.Common.{◌≡◌, ℕ, [], take}
use Rattle.mcs_hints.specs.stored.Marks.{bounds_of}
use Rattle.mcs_hints.proofs.contexts.bind_threads.Given as goal

abbrev pub invariant-loop-thread : goal.invariant-loop-thread
invariant-loop-thread l = (contexts : ℕ) → l.initial.bounds ≡ bounds_of contexts [] → l.bounds ≡ bounds_of contexts (take l.thread-index l.threads)
