use Rattle.std.proofs.Common.{◌≡◌, ◌<◌, ℕ, true, false, get_or}
use Rattle.mcs_system.specs.System.{core_of, thread_part}
use Rattle.mcs_chain.specs.Steps.{gone_of}
use Rattle.mcs_chain.proofs.later.are_steps_same.Given as goal

abbrev pub invariant-loop-thread : goal.invariant-loop-thread
invariant-loop-thread l =
    (thread : ℕ) → thread < l.thread → get_or l.own (core_of l.parts (thread_part l.parts thread)) false ≡ true
    → gone_of l.after thread ≡ gone_of l.before thread
