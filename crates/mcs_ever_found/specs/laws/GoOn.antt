-- What becomes of each thread and of each word of a group that recurs in its findings, by what is
-- known at the end of the first period.
use Rattle.std.specs.Prelude.{◌≡◌, ℕ, suc, ◌+◌, ◌-◌, ◌<◌, ◌≤◌, Bool, true, false, [], length, Option, Some, None}
use Rattle.mcs_system.specs.System.{System, thread_part, note_part, core_of}
use Rattle.mcs_system.specs.WellFormed.{IsWellFormed}
use Rattle.mcs_core.specs.Clock.{schedule}
use Rattle.mcs_verdict.specs.declared.finding.Finding.{Finding}
use Rattle.mcs_verdict.specs.declared.finding.Finding.TheVariants.{Overdue, Untaken}
use Rattle.mcs_verdict.specs.declared.standing.Stood.{Stood}
use Rattle.mcs_verdict.specs.Due.{untaken}
use Rattle.mcs_verdict.specs.Findings.{past_of}
use Rattle.mcs_verdict.specs.Misses.{overdue, never}
use Rattle.mcs_verdict.specs.Rounds.{first_wait}
use Rattle.mcs_verdict_laws.specs.laws.Horizons.{has_miss_of}
use Rattle.mcs_ever.specs.Recurs.{Shifts}
use Rattle.mcs_ever_found.specs.Period.{endless_round, abandoned_word}
use Rattle.mcs_ever_found.specs.Recurs.{FindingsRecur}
use Rattle.mcs_ever_found.specs.laws.Never.{told_up_to, IsInTime}

module _ (system : System) where
  -- the findings of a thread and of a notification at the horizon
  abbrev pub overdue_up_to : ℕ → ℕ → Option Finding
  overdue_up_to horizon thread = overdue system (past_of [] (schedule system horizon)) horizon thread

  abbrev pub never_up_to : ℕ → ℕ → Option Finding
  never_up_to horizon thread = never system (past_of [] (schedule system horizon)) horizon thread

  abbrev pub untaken_up_to : ℕ → ℕ → Option Finding
  untaken_up_to horizon note = untaken system (past_of [] (schedule system horizon)) horizon note

  -- the round of the thread with this number, which was activated at `since`, is overdue at the
  -- horizon
  pub record IsOverdueRound (horizon thread number deadline since : ℕ) : Type 0 where
    pub queued : ℕ
    pub stood : Stood
    pub found : overdue_up_to horizon thread ≡ Some (Overdue thread number (horizon - since) deadline since queued stood)

  module _ (by from : ℕ) where
    -- A thread with no endless round that missed no deadline in a round that ended before the end of
    -- the first period is in time for ever. An endless round is overdue for ever, once a deadline has
    -- passed since its activation. From the last moment of the first period on the thread is never
    -- activated exactly if it was not by then
    pub record ThreadGoesOn (thread : ℕ) : Type 0 where
      pub in_time : endless_round system by from thread ≡ None → has_miss_of thread (told_up_to system (from + by - 1)) ≡ false →
          (horizon : ℕ) → IsInTime system horizon thread
      pub endless : (number age deadline since queued : ℕ) (stood : Stood) →
          endless_round system by from thread ≡ Some (Overdue thread number age deadline since queued stood) →
          (horizon : ℕ) → from + by ≤ suc horizon → deadline ≤ horizon - since →
          IsOverdueRound horizon thread number deadline since
      pub never : (horizon : ℕ) → from + by ≤ suc horizon → never_up_to horizon thread ≡ never_up_to (from + by - 1) thread

    -- A word that is not abandoned is untaken at no horizon, if each thread that waits for it first is
    -- in time for ever. An abandoned word is untaken for ever, once the deadline of its notification
    -- has passed since it was set
    pub record WordGoesOn (note : ℕ) : Type 0 where
      pub taken : abandoned_word system by from note ≡ None →
          ((thread : ℕ) → thread < length system.threads → first_wait (thread_part system thread) ≡ Some note →
          (horizon : ℕ) → IsInTime system horizon thread) →
          (horizon : ℕ) → untaken_up_to horizon note ≡ None
      pub abandoned : (word age deadline set : ℕ) →
          abandoned_word system by from note ≡ Some (Untaken note word age deadline set) →
          (horizon : ℕ) → from + by ≤ suc horizon → deadline ≤ horizon - set →
          untaken_up_to horizon note ≡ Some (Untaken note word (horizon - set) deadline set)

-- each thread of the group goes on so
abbrev pub ThreadsGoOn : Type 0
ThreadsGoOn =
    (system : System) (group : ℕ → Bool) (shifts : Shifts) (from : ℕ) → IsWellFormed system → FindingsRecur system group shifts from →
    (thread : ℕ) → thread < length system.threads → group (core_of system (thread_part system thread)) ≡ true →
    ThreadGoesOn system shifts.by from thread

-- and so does each word of its notifications
abbrev pub WordsGoOn : Type 0
WordsGoOn =
    (system : System) (group : ℕ → Bool) (shifts : Shifts) (from : ℕ) → IsWellFormed system → FindingsRecur system group shifts from →
    (note : ℕ) → note < length system.notes → group (note_part system note).core ≡ true →
    WordGoesOn system shifts.by from note
