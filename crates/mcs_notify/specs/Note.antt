-- A notification: a word, and the threads that wait on it, in the order in which they began to
-- wait.
use Rattle.std.specs.Prelude.{ℕ, Bool, ◌==◌, bit_or, if◌then◌else◌, List, [], ◌∷◌, ◌++◌, get_or, set, Option, Some, None}
use Rattle.std.specs.List.{list_any}
use Rattle.mcs_ticks.specs.Queue.{first_of_greatest, without}
use Rattle.mcs_ticks.specs.declared.queue.Queued.{Queued}
use Rattle.mcs_notify.specs.declared.posted.Posted.{Posted}
use Rattle.mcs_notify.specs.declared.posted.Posted.TheVariants.{Woke, Held}
use Rattle.mcs_notify.specs.declared.posted.Waited.{Waited}
use Rattle.mcs_notify.specs.declared.posted.Waited.TheVariants.{Got, Blocks}

pub record Note : Type 0 where
  pub word : ℕ
  pub waiters : List Queued

-- a notification with word 0 and no waiters
abbrev pub quiet_note : Note
quiet_note = record { word = 0; waiters = [] }

-- the result of a post: the first waiter of maximum priority is woken with the badge, or the badge
-- is ORed into the word
abbrev posted_by : ℕ → Note → Option Queued → Posted
posted_by badge note (Some first) = Woke first.thread badge
posted_by badge note None = Held (bit_or note.word badge)

abbrev pub posted : ℕ → Note → Posted
posted badge note = posted_by badge note (first_of_greatest note.waiters)

-- the notification after this result
abbrev pub after_post : Posted → Note → Note
after_post (Woke thread word) note = record { word = note.word; waiters = without thread note.waiters }
after_post (Held word) note = record { word = word; waiters = note.waiters }

-- the result of a wait: a word other than 0 is taken; at word 0 the thread blocks
abbrev pub waited : Note → Waited
waited note = if note.word == 0 then Blocks else Got note.word

abbrev pub after_wait : Waited → Queued → Note → Note
after_wait (Got word) thread note = record { word = 0; waiters = note.waiters }
after_wait Blocks thread note = record { word = note.word; waiters = note.waiters ++ thread ∷ [] }

-- all notifications, by number, and the number of threads
pub record Notifications : Type 0 where
  pub notes : List Note
  pub threads : ℕ

abbrev pub note_of : List Note → ℕ → Note
note_of notes note = get_or notes note quiet_note

abbrev pub with_note : ℕ → Note → Notifications → Notifications
with_note note state all = record { notes = set all.notes note state; threads = all.threads }

-- whether the thread waits on one of these
abbrev pub is_waiting : ℕ → List Note → Bool
is_waiting thread notes = list_any (λ note. list_any (λ waiter. waiter.thread == thread) note.waiters) notes
