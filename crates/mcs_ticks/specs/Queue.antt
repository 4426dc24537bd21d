-- Queues of threads with their priorities. Two ways to keep the ready threads of a core are
-- defined, which return the same threads. The waiters of a notification share some of these
-- definitions.
use Rattle.std.specs.Prelude.{◌≡◌, ℕ, nat_lt, ◌==◌, if◌then◌else◌, List, [], ◌∷◌, ◌++◌, Option, Some, None}
use Rattle.mcs_ticks.specs.declared.queue.Queued.{Queued}

-- the first of maximum priority among `best` and those after it
abbrev pub first_among : Queued → List Queued → Queued
first_among best [] = best
first_among best (x ∷ xs) = if nat_lt best.priority x.priority then first_among x xs else first_among best xs

-- the first of maximum priority
abbrev pub first_of_greatest : List Queued → Option Queued
first_of_greatest [] = None
first_of_greatest (x ∷ xs) = Some (first_among x xs)

-- the list without the first entry of this thread
abbrev pub without : ℕ → List Queued → List Queued
without thread [] = []
without thread (x ∷ xs) = if x.thread == thread then xs else x ∷ without thread xs

-- the list without its first of maximum priority
abbrev pub without_greatest : List Queued → List Queued
without_greatest [] = []
without_greatest (x ∷ []) = []
without_greatest (x ∷ y ∷ ys) =
    if nat_lt x.priority (first_among y ys).priority then x ∷ without_greatest (y ∷ ys) else y ∷ ys

-- how ready threads are kept: entering at the back, entering at the front, the best thread, and
-- what is left after it is taken
pub record Discipline : Type 0 where
  pub back : Queued → List Queued → List Queued
  pub front : Queued → List Queued → List Queued
  pub best : List Queued → Option Queued
  pub rest : List Queued → List Queued

-- by priority, highest first: a thread enters at the back after those of its priority ..
abbrev pub entered_back : Queued → List Queued → List Queued
entered_back x [] = x ∷ []
entered_back x (y ∷ ys) = if nat_lt y.priority x.priority then x ∷ y ∷ ys else y ∷ entered_back x ys

-- .. and at the front before them
abbrev pub entered_front : Queued → List Queued → List Queued
entered_front x [] = x ∷ []
entered_front x (y ∷ ys) = if nat_lt x.priority y.priority then y ∷ entered_front x ys else x ∷ y ∷ ys

-- the first of the queue, which is the best
abbrev pub first_of : List Queued → Option Queued
first_of [] = None
first_of (x ∷ xs) = Some x

-- the queue without its first
abbrev pub rest_of : List Queued → List Queued
rest_of [] = []
rest_of (x ∷ xs) = xs

-- the queue by priority, first in first out within a priority
abbrev pub by_priority : Discipline
by_priority = record { back = entered_back; front = entered_front; best = first_of; rest = rest_of }

-- one list in order of entering: the back appends, the front prepends, and the best is the first of
-- maximum priority
abbrev pub in_one_list : Discipline
in_one_list =
    record { back = λ x xs. xs ++ x ∷ []; front = λ x xs. x ∷ xs; best = first_of_greatest; rest = without_greatest }

-- a command to a queue
pub data Command : Type 0 where
  EnterBack : Queued → Command
  EnterFront : Queued → Command
  Take : Command

-- what a queue returns at each `Take`, in order
abbrev pub answers : Discipline → List Command → List Queued → List (Option Queued)
answers discipline [] queue = []
answers discipline (EnterBack x ∷ commands) queue = answers discipline commands (discipline.back x queue)
answers discipline (EnterFront x ∷ commands) queue = answers discipline commands (discipline.front x queue)
answers discipline (Take ∷ commands) queue = discipline.best queue ∷ answers discipline commands (discipline.rest queue)

-- both ways return the same threads for every list of commands
abbrev pub AnswerAlike : Type 0
AnswerAlike = (commands : List Command) → answers by_priority commands [] ≡ answers in_one_list commands []

-- the threads of one list in order of entering, by priority
abbrev pub sorted : List Queued → List Queued
sorted [] = []
sorted (x ∷ xs) = entered_front x (sorted xs)
