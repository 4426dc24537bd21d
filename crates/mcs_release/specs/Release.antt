-- The threads of a core that wait for a date, in the order in which they entered.
use Rattle.std.specs.Prelude.{◌≡◌, ℕ, ◌<◌, ◌≢◌, ◌==◌, nat_lt, nat_le, if◌then◌else◌, Bool, List, [], ◌∷◌, not, drop, filter, slice_get, All, AllPairs, Option, Some, None, option_map}
use Rattle.std.specs.List.{list_any}
use Rattle.mcs_release.specs.declared.dated.Dated.{Dated}

-- the threads with their dates, and the number of threads that fit
pub record ReleaseQueue : Type 0 where
  pub queue : List Dated
  pub room : ℕ

-- a thread with its date
abbrev pub dated : ℕ → ℕ → Dated
dated thread date = record { thread = thread; date = date }

-- whether the thread is in the queue
abbrev pub is_held : ℕ → List Dated → Bool
is_held thread queue = list_any (λ x. x.thread == thread) queue

-- the one with the earlier date; at equal dates, the one that entered first
abbrev pub earlier : Dated → Option Dated → Dated
earlier x None = x
earlier x (Some y) = if nat_lt y.date x.date then y else x

-- the one with the earliest date; at equal dates, the one that entered first
abbrev pub earliest : List Dated → Option Dated
earliest [] = None
earliest (x ∷ xs) = Some (earlier x (earliest xs))

-- the earliest date
abbrev pub next_date : List Dated → Option ℕ
next_date queue = option_map (λ x. x.date) (earliest queue)

-- whether the date has come
abbrev pub is_due : ℕ → Dated → Bool
is_due t x = nat_le x.date t

-- the thread that leaves at moment t: the earliest of those whose date has come
abbrev pub first_due : ℕ → List Dated → Option Dated
first_due t queue = earliest (filter (is_due t) queue)

abbrev pub thread_of : Option Dated → Option ℕ
thread_of = option_map (λ x. x.thread)

-- the queue without this thread
abbrev pub without : ℕ → List Dated → List Dated
without thread [] = []
without thread (x ∷ xs) = if x.thread == thread then xs else x ∷ without thread xs

-- the queue after this thread left, if there is one
abbrev pub when_left : Option Dated → List Dated → List Dated
when_left None queue = queue
when_left (Some x) queue = without x.thread queue

abbrev pub without_first_due : ℕ → List Dated → List Dated
without_first_due t queue = when_left (first_due t queue) queue

-- no thread is in the queue twice
abbrev pub AreDistinct : List Dated → Type 0
AreDistinct queue = AllPairs (λ x y. x.thread ≢ y.thread) queue

-- each thread of the queue has a number below `room`
abbrev pub AreBelow : ℕ → List Dated → Type 0
AreBelow room queue = All (λ x. x.thread < room) queue

-- if all due threads have the same date, the first of them in order of entering leaves and the
-- others stay: one after another they leave in that order
abbrev pub LeaveInOrder : Type 0
LeaveInOrder =
    (t date : ℕ) (queue : List Dated) → AreDistinct queue → All (λ x. x.date ≡ date) (filter (is_due t) queue) →
    (first_due t queue ≡ slice_get (filter (is_due t) queue) 0)
    × (filter (is_due t) (without_first_due t queue) ≡ drop 1 (filter (is_due t) queue))
    × (filter (λ x. not (is_due t x)) (without_first_due t queue) ≡ filter (λ x. not (is_due t x)) queue)
