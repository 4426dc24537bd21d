-- The place of a thread on its core: it runs, is in the ready queue or in the release queue, or
-- waits for a notification.
use Rattle.std.specs.Prelude.{ℕ, ◌+◌, ◌<◌, ◌≤◌, ◌==◌, if◌then◌else◌, Option, Some, None}
use Rattle.mcs_core.specs.declared.standing.Chosen.{Chosen}
use Rattle.mcs_system.specs.System.{System}
use Rattle.mcs_core.specs.Core.{Core}
use Rattle.mcs_core.specs.Places.{times_queued, times_dated, times_waiting}
use Rattle.mcs_core.specs.Clock.{world, core_at}

module _ (thread : ℕ) where
  -- how often it runs
  abbrev pub times_running : Option Chosen → ℕ
  times_running None = 0
  times_running (Some chosen) = if chosen.thread == thread then 1 else 0

  -- the number of its places on the core
  abbrev pub places : Core → ℕ
  places core =
      times_running core.running + times_queued thread core.ready + times_dated thread core.releases
      + times_waiting thread core.notes

-- at each moment a thread has at most one place on a core: a running thread is in no queue and
-- waits for no notification, and a waiting or queued thread is so once
abbrev pub ThreadsHaveOnePlace : System → Type 0
ThreadsHaveOnePlace system = (c t thread : ℕ) → c < system.cores → places thread (core_at system (world system t) c) ≤ 1
