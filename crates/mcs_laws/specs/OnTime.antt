-- Threads on time: when they are ready or run, the dates of their contexts have come.
use Rattle.std.specs.Prelude.{◌≡◌, ℕ, ◌+◌, ◌<◌, ◌≤◌, List, length, Option, Some, None}
use Rattle.std.specs.List.{AllByRecursion}
use Rattle.mcs_ticks.specs.declared.queue.Queued.{Queued}
use Rattle.mcs_control.specs.Context.{head_moment}
use Rattle.mcs_release.specs.declared.dated.Dated.{Dated}
use Rattle.mcs_core.specs.declared.standing.Chosen.{Chosen}
use Rattle.mcs_system.specs.System.{System, thread_part}
use Rattle.mcs_laws.specs.Histories.{home_before, context_before}
use Rattle.mcs_core.specs.Places.{times_queued}

-- a thread whose context has this head moment
module _ (thread head : ℕ) where
  -- if it runs, each tick since it was chosen, up to the one that ends at the moment, began at its
  -- date or later: the dates of a head follow one another
  abbrev pub RunsInTime : ℕ → Option Chosen → Type 0
  RunsInTime moment None = Unit {0}
  RunsInTime moment (Some chosen) = chosen.thread ≡ thread → head + chosen.using < moment

  -- before the turn at the moment, with these running, ready and waiting for a date: if the thread
  -- is ready the head has come, and if it waits for a date that is not before the head
  pub record IsOnTime (moment : ℕ) (running : Option Chosen) (queue : List Queued) (releases : List Dated) : Type 0
    where
      pub runs : RunsInTime moment running
      pub ready : 1 ≤ times_queued thread queue → head < moment
      pub pends : AllByRecursion (λ (dated : Dated). dated.thread ≡ thread → head ≤ dated.date) releases

-- at each moment each thread is on time, whatever orders came before
abbrev pub ThreadsAreOnTime : System → Type 0
ThreadsAreOnTime system =
    (thread t : ℕ) → thread < length system.threads →
    let context = (thread_part system thread).context in
    let core = home_before system context t in
    IsOnTime thread (head_moment (context_before system context t)) t core.running core.ready core.releases
