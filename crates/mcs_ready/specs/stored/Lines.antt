-- The storage of ready threads: a line for each priority, in which each thread names the next one
-- and the last names the first.
use Rattle.std.specs.Prelude.{◌≡◌, ◌≢◌, ℕ, zero, suc, ◌+◌, ◌-◌, ◌^◌, ◌<◌, ◌≤◌, ◌==◌, not, if◌then◌else◌, Bool, true, false, List, [], ◌∷◌, ◌++◌, length, map, slice_index, slice_index_or}
use Rattle.mcs_ticks.specs.declared.queue.Queued.{Queued}
use Rattle.mcs_ready.specs.stored.Priorities.{has}
use Rattle.mcs_ready.specs.Ready.{queued}

-- the number that represents no thread
abbrev pub no_thread : ℕ
no_thread = 2 ^ 64 - 1

-- the threads from `x` to the last, each named by the one before it; at most `most` of them
abbrev pub line_to : List ℕ → ℕ → ℕ → ℕ → List ℕ
line_to next last zero x = []
line_to next last (suc most) x = x ∷ (if x == last then [] else line_to next last most (slice_index next x))

-- the threads of the line with this last one. They are at most as many as there are places, so the
-- last one is reached
abbrev pub threads_of : List ℕ → ℕ → List ℕ
threads_of next last = if last == no_thread then [] else line_to next last (suc (length next)) (slice_index next last)

-- the threads of each line
abbrev pub all_threads : List ℕ → List ℕ → List (List ℕ)
all_threads next lasts = map (threads_of next) lasts

-- the threads of a line as entries of a queue
abbrev pub queued_at : ℕ → List ℕ → List Queued
queued_at priority line = map (λ thread. queued thread priority) line

-- the lines as one queue, highest priority first: the first line has this priority, and each later
-- line has 1 more
abbrev pub queue_from : ℕ → List (List ℕ) → List Queued
queue_from priority [] = []
queue_from priority (line ∷ lines) = queue_from (suc priority) lines ++ queued_at priority line

-- whether there is a thread
abbrev pub is_some_in : List ℕ → Bool
is_some_in [] = false
is_some_in (x ∷ xs) = true

-- how often the thread occurs in a line, and in all lines
abbrev pub times : ℕ → List ℕ → ℕ
times x [] = 0
times x (y ∷ ys) = (if y == x then 1 else 0) + times x ys

abbrev pub times_in : ℕ → List (List ℕ) → ℕ
times_in x [] = 0
times_in x (line ∷ lines) = times x line + times_in x lines

-- a line with its last thread among the places; it has at most as many threads as there are places,
-- and each is one of them
pub record IsLine (next : List ℕ) (last : ℕ) : Type 0 where
  pub known : last ≢ no_thread → last < length next
  pub few : length (threads_of next last) ≤ length next
  pub within : (x : ℕ) → 0 < times x (threads_of next last) → x < length next

-- whether the thread names a next one, as each held thread does
abbrev pub names_one : List ℕ → ℕ → Bool
names_one next x = not (slice_index_or next x no_thread == no_thread)

-- how often a thread occurs: once if it is held, otherwise never
abbrev pub one_if : Bool → ℕ
one_if held = if held then 1 else 0

-- the invariant: there are 256 lines; the set marks the lines that have a thread; each thread that
-- names a next one occurs once in all lines, the others do not occur; and the number of places is
-- at most `no_thread`, so no thread has that number
pub record IsKept (words lasts next : List ℕ) : Type 0 where
  pub count : length lasts ≡ 256
  pub few : length next ≤ no_thread
  pub marked : (p : ℕ) → has words p ≡ is_some_in (slice_index_or (all_threads next lasts) p [])
  pub once : (x : ℕ) → times_in x (all_threads next lasts) ≡ one_if (names_one next x)
