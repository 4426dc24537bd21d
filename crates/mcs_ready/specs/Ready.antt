-- The ready threads of a core, as callers see them.
use Rattle.std.specs.Prelude.{ℕ, ◌<◌, ◌≢◌, ◌==◌, Bool, List, All, AllPairs, Option, option_map}
use Rattle.std.specs.List.{list_any}
use Rattle.mcs_ticks.specs.declared.queue.Queued.{Queued}

-- the queue, by priority, and the number of threads that fit
pub record ReadyQueue : Type 0 where
  pub queue : List Queued
  pub room : ℕ

-- a thread with its priority, as an entry of a queue
abbrev pub queued : ℕ → ℕ → Queued
queued thread priority = record { thread = thread; priority = priority }

-- whether the thread is in the queue
abbrev pub is_held : ℕ → List Queued → Bool
is_held thread queue = list_any (λ x. x.thread == thread) queue

abbrev pub thread_of : Option Queued → Option ℕ
thread_of = option_map (λ x. x.thread)

abbrev pub priority_of : Option Queued → Option ℕ
priority_of = option_map (λ x. x.priority)

-- no thread is in the queue twice
abbrev pub AreDistinct : List Queued → Type 0
AreDistinct queue = AllPairs (λ x y. x.thread ≢ y.thread) queue

-- each thread of the queue has a number below `room`
abbrev pub AreBelow : ℕ → List Queued → Type 0
AreBelow room queue = All (λ x. x.thread < room) queue
