-- The storage of waiting threads: a line for each notification, in which each thread names the next
-- one.
use Rattle.std.specs.Prelude.{◌≡◌, ℕ, zero, suc, ◌+◌, ◌-◌, ◌<◌, ◌≤◌, ◌==◌, if◌then◌else◌, List, [], ◌∷◌, length, map, set, Some, slice_index_or}
use Rattle.mcs_ticks.specs.Queue.{first_of_greatest}
use Rattle.mcs_ticks.specs.declared.queue.Queued.{Queued}
use Rattle.mcs_notify.specs.declared.line.Line.{Line}
use Rattle.mcs_notify.specs.declared.line.Place.{Place}
use Rattle.mcs_notify.specs.declared.line.Waiter.{Waiter}
use Rattle.mcs_notify.specs.declared.notes.Kept.{Kept}
use Rattle.mcs_notify.specs.Note.{Note, Notifications, note_of}

-- the place of a thread
abbrev pub no_place : Place
no_place = record { behind = 0; priority = 0 }

abbrev pub place_of : List Place → ℕ → Place
place_of places thread = slice_index_or places thread no_place

-- a waiting thread with its priority
abbrev pub queued_at : List Place → ℕ → Queued
queued_at places thread = record { thread = thread; priority = (place_of places thread).priority }

-- `len` threads from `first` on, each named by the one before it
abbrev pub waiters_from : List Place → ℕ → ℕ → List Queued
waiters_from places first zero = []
waiters_from places first (suc len) = queued_at places first ∷ waiters_from places (place_of places first).behind len

-- the waiters of a line
abbrev pub waiters_of : List Place → Line → List Queued
waiters_of places line = waiters_from places line.first line.len

-- a notification as callers see it
abbrev pub note_at : List Place → Kept → Note
note_at places kept = record { word = kept.word; waiters = waiters_of places kept.line }

abbrev pub notes_at : List Kept → List Place → List Note
notes_at kept places = map (note_at places) kept

abbrev pub seen_as : List Kept → List Place → Notifications
seen_as kept places = record { notes = notes_at kept places; threads = length places }

-- the thread k places after the first
abbrev pub nth : List Place → ℕ → ℕ → ℕ
nth places first zero = first
nth places first (suc k) = nth places (place_of places first).behind k

-- a waiter k places after the first, and the one before it
abbrev pub StandsAt : List Place → ℕ → ℕ → Waiter → Type 0
StandsAt places first k waiter = (waiter.thread ≡ nth places first k) × (waiter.before ≡ nth places first (k - 1))

-- the waiter of maximum priority among these; at equal priority, the longest waiting
abbrev pub IsBest : List Place → ℕ → ℕ → Waiter → Type 0
IsBest places first len best =
    (k : ℕ) × (k < len) × StandsAt places first k best
    × (first_of_greatest (waiters_from places first len) ≡ Some (queued_at places best.thread))

-- a line with the thread at its back
abbrev pub with_back : ℕ → Line → Line
with_back thread line =
    record { first = if line.len == 0 then thread else line.first; last = thread; len = line.len + 1 }

-- the thread after which it enters; the thread itself if the line is empty
abbrev pub before_back : ℕ → Line → ℕ
before_back thread line = if line.len == 0 then thread else line.last

-- the places after `before` names this thread as its next one
abbrev pub named : ℕ → ℕ → List Place → List Place
named before thread places =
    set places before (record { behind = thread; priority = (place_of places before).priority })

-- the places after a thread enters a line at its back
abbrev pub joined : ℕ → ℕ → Line → List Place → List Place
joined thread priority line places =
    named (before_back thread line) thread (set places thread (record { behind = thread; priority = priority }))

-- a line without this waiter, whose next thread is `behind`
abbrev pub without_waiter : Waiter → ℕ → Line → Line
without_waiter one behind line = record {
  first = if one.thread == line.first then behind else line.first;
  last = if one.thread == line.last then one.before else line.last;
  len = line.len - 1;
}

-- the places after a waiter leaves its line
abbrev pub unlinked : Waiter → List Place → List Place
unlinked one places = named one.before (place_of places one.thread).behind places

-- the best waiter leaves the line
abbrev pub BestLeaves : List Place → Line → ℕ → List Place → Line → Type 0
BestLeaves old line thread new line' =
    (best : Waiter) × IsBest old line.first line.len best × (thread ≡ best.thread) × (new ≡ unlinked best old)
    × (line' ≡ without_waiter best (place_of old best.thread).behind line)

-- the last of the waiters, or `d` if there are no waiters
abbrev pub last_or : ℕ → List Queued → ℕ
last_or d [] = d
last_or d (x ∷ xs) = last_or x.thread xs

-- how often the thread occurs in a line, and in all lines
abbrev pub times : ℕ → List Queued → ℕ
times thread [] = 0
times thread (x ∷ xs) = (if x.thread == thread then 1 else 0) + times thread xs

abbrev pub times_in : ℕ → List Note → ℕ
times_in thread [] = 0
times_in thread (note ∷ notes) = times thread note.waiters + times_in thread notes

-- a new notification: word 0 and no waiters
abbrev pub quiet : Kept
quiet = record { word = 0; line = record { first = 0; last = 0; len = 0 } }

-- the invariant: each line ends with its last thread; each thread that waits exists, and waits only
-- once
pub record IsKept (kept : List Kept) (places : List Place) : Type 0 where
  pub ends : (n : ℕ) → last_or (slice_index_or kept n quiet).line.last (note_of (notes_at kept places) n).waiters
      ≡ (slice_index_or kept n quiet).line.last
  pub once : (thread : ℕ) → times_in thread (notes_at kept places) ≤ 1
  pub below : (thread : ℕ) → 0 < times_in thread (notes_at kept places) → thread < length places
