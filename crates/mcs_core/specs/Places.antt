-- The places of a thread on its core, counted.
use Rattle.std.specs.Prelude.{ℕ, ◌+◌, ◌==◌, if◌then◌else◌, List, [], ◌∷◌}
use Rattle.mcs_ticks.specs.declared.queue.Queued.{Queued}
use Rattle.mcs_notify.specs.Note.{Note}
use Rattle.mcs_release.specs.declared.dated.Dated.{Dated}

-- how often a thread is in a queue, in the release queue, and among the waiters of all
-- notifications
abbrev pub times_queued : ℕ → List Queued → ℕ
times_queued x [] = 0
times_queued x (y ∷ ys) = (if y.thread == x then 1 else 0) + times_queued x ys

abbrev pub times_dated : ℕ → List Dated → ℕ
times_dated x [] = 0
times_dated x (y ∷ ys) = (if y.thread == x then 1 else 0) + times_dated x ys

abbrev pub times_waiting : ℕ → List Note → ℕ
times_waiting x [] = 0
times_waiting x (note ∷ notes) = times_queued x note.waiters + times_waiting x notes
