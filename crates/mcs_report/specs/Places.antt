-- The threads of each core, and the index of each among them.
use Rattle.std.specs.Prelude.{ℕ, ◌==◌, ◌&&◌, nat_lt, Bool, if◌then◌else◌, List, length, take, filter, count_by, Option, Some, None}
use Rattle.mcs_system.specs.declared.part.ThreadPart.{ThreadPart}
use Rattle.mcs_system.specs.System.{System, thread_part, core_of}

module _ (system : System) where
  abbrev pub is_on : ℕ → ThreadPart → Bool
  is_on c thread = core_of system thread == c

  -- the threads of core c, in order
  abbrev pub threads_on : ℕ → List ThreadPart
  threads_on c = filter (is_on c) system.threads

  -- the index of a thread among those of its core: how many of them come before it
  abbrev pub place_of : ℕ → ℕ
  place_of thread = count_by (is_on (core_of system (thread_part system thread))) (take thread system.threads)

  -- its index on this core. A thread of another core, or one that the system does not have, has
  -- none.
  abbrev pub place_on : ℕ → ℕ → Option ℕ
  place_on c thread =
      if nat_lt thread (length system.threads) && is_on c (thread_part system thread) then Some (place_of thread) else None
