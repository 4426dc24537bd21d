use Rattle.std.proofs.Common.{◌≡◌, ◌<◌, ℕ, [], true, false, get_or}
use Rattle.mcs_system.specs.System.{core_of, thread_part}
use Rattle.mcs_origins.specs.Later.{later_set}
use Rattle.mcs_chain.proofs.later.are_carried_later.Given as goal

abbrev pub invariant-loop-thread : goal.invariant-loop-thread
invariant-loop-thread l =
    (thread : ℕ) → thread < l.thread → get_or l.own (core_of l.parts (thread_part l.parts thread)) false ≡ true
    → get_or l.after thread [] ≡ later_set l.by (get_or l.before thread [])
