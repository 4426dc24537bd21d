-- The state of a thread in a tick, by the clock.
use Rattle.std.specs.Prelude.{ℕ, suc, ◌+◌, ◌==◌, nat_lt, if◌then◌else◌, List, [], ◌∷◌}
use Rattle.mcs_notify.specs.Note.{Note}
use Rattle.mcs_system.specs.System.{System, thread_part, core_of, is_server}
use Rattle.mcs_core.specs.Core.{Core}
use Rattle.mcs_core.specs.Places.{times_queued, times_dated, times_waiting}
use Rattle.mcs_core.specs.Clock.{world, core_at}
use Rattle.mcs_laws.specs.Places.{times_running}
use Rattle.mcs_verdict.specs.declared.standing.Standing.{Standing}
use Rattle.mcs_verdict.specs.declared.standing.Standing.TheVariants.{Pending, Ready, Running, Throttled, Blocked, AtServer, Done}

-- how often a thread is among the waiters of servers, of the notes from number n on
abbrev pub times_at_server : System → ℕ → ℕ → List Note → ℕ
times_at_server system x n [] = 0
times_at_server system x n (note ∷ notes) =
    (if is_server system n then times_queued x note.waiters else 0) + times_at_server system x (suc n) notes

module _ (system : System) (t thread : ℕ) where
  -- a thread in the release queue is pending before its start, and waits for its budget from then
  -- on
  abbrev pub dated_standing : Standing
  dated_standing = if nat_lt t (thread_part system thread).start then Pending else Throttled

  -- a waiting thread waits for a server that is taken, or for a signal
  abbrev pub waiting_standing : Core → Standing
  waiting_standing core = if times_at_server system thread 0 core.notes == 1 then AtServer else Blocked

  -- the thread runs, or is in the ready queue, in the release queue, or among the waiters of a
  -- note; else it is done
  abbrev pub standing_on : Core → Standing
  standing_on core =
      if times_running thread core.running == 1 then Running
      else if times_queued thread core.ready == 1 then Ready
      else if times_dated thread core.releases == 1 then dated_standing
      else if times_waiting thread core.notes == 1 then waiting_standing core
      else Done

  -- its core after all turns up to time t, as tick t finds it
  abbrev pub core_in_tick : Core
  core_in_tick = core_at system (world system (suc t)) (core_of system (thread_part system thread))

  abbrev pub standing_in_clock : Standing
  standing_in_clock = standing_on core_in_tick
