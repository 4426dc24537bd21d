-- What becomes of a round that is under way, and of a word that nobody has taken.
use Rattle.std.specs.Prelude.{◌≡◌, ℕ, ◌≤◌, ◌⊎◌, Bool, true, false, ◌==◌, ◌&&◌, nat_lt, List, [], Option, Some, None}
use Rattle.std.specs.List.{list_any}
use Rattle.mcs_ticks.specs.declared.row.Row.{Row}
use Rattle.mcs_system.specs.System.{System, thread_part}
use Rattle.mcs_system.specs.WellFormed.{IsWellFormed}
use Rattle.mcs_core.specs.Clock.{schedule}
use Rattle.mcs_verdict.specs.declared.finding.Finding.{Finding}
use Rattle.mcs_verdict.specs.declared.finding.Finding.TheVariants.{Miss, Overdue, Untaken}
use Rattle.mcs_verdict.specs.declared.finding.Found.{Found}
use Rattle.mcs_verdict.specs.declared.job.Job.{Job}
use Rattle.mcs_verdict.specs.Due.{untaken}
use Rattle.mcs_verdict.specs.Findings.{past_of, found_in}
use Rattle.mcs_verdict.specs.Jobs.{jobs_in}
use Rattle.mcs_verdict.specs.Misses.{overdue}
use Rattle.mcs_verdict.specs.Rounds.{first_wait, activated_of}

-- the rows up to the horizon, the latest first
abbrev pub rows_to : System → ℕ → List Row
rows_to system horizon = past_of [] (schedule system horizon)

-- a round of the thread is under way at the horizon, and was activated at `since`
abbrev pub IsUnderWay : System → ℕ → ℕ → ℕ → Type 0
IsUnderWay system horizon thread since = activated_of system thread (rows_to system horizon) horizon ≡ Some since

-- a round of the thread that was activated at `since` ended after the earlier horizon, and up to the
-- later one
abbrev pub is_end : ℕ → ℕ → ℕ → Job → Bool
is_end earlier thread since job = nat_lt earlier job.ended && (job.thread == thread) && (job.activated == since)

abbrev pub HasEnded : System → ℕ → ℕ → ℕ → ℕ → Type 0
HasEnded system earlier later thread since = list_any (is_end earlier thread since) (jobs_in system [] (schedule system later)) ≡ true

-- when an overdue round was activated, and when an untaken word was set
abbrev pub overdue_from : Option Finding → Option ℕ
overdue_from (Some (Overdue thread number age deadline activated queued stood)) = Some activated
overdue_from _ = None

abbrev pub untaken_from : Option Finding → Option ℕ
untaken_from (Some (Untaken note word age deadline set)) = Some set
untaken_from _ = None

-- a round of the thread is overdue at the horizon, and was activated at `since`
abbrev pub IsOverdue : System → ℕ → ℕ → ℕ → Type 0
IsOverdue system horizon thread since = overdue_from (overdue system (rows_to system horizon) horizon thread) ≡ Some since

-- the word of the notification is untaken at the horizon, and was set at `since`
abbrev pub IsUntaken : System → ℕ → ℕ → ℕ → Type 0
IsUntaken system horizon note since = untaken_from (untaken system (rows_to system horizon) horizon note) ≡ Some since

-- a round of the thread that was activated at `since` missed its deadline after the earlier horizon,
-- and up to the later one
abbrev pub is_miss_from : ℕ → ℕ → Finding → Bool
is_miss_from thread since (Miss x number response deadline activated queued stood) = (x == thread) && (activated == since)
is_miss_from thread since _ = false

abbrev pub is_miss_after : ℕ → ℕ → ℕ → Found → Bool
is_miss_after earlier thread since found = nat_lt earlier found.moment && is_miss_from thread since found.finding

abbrev pub HasMissed : System → ℕ → ℕ → ℕ → ℕ → Type 0
HasMissed system earlier later thread since =
    list_any (is_miss_after earlier thread since) (found_in system [] (schedule system later)) ≡ true

-- a thread that waits first for the notification took the word that was set at `since`: its round is
-- overdue at the later horizon, or missed its deadline
pub record WasTaken (system : System) (earlier later note since : ℕ) : Type 0 where
  pub thread : ℕ
  pub waits : first_wait (thread_part system thread) ≡ Some note
  pub late : IsOverdue system later thread since ⊎ HasMissed system earlier later thread since

-- a round that is under way stays so until it ends
abbrev pub RoundsStayUntilTheyEnd : Type 0
RoundsStayUntilTheyEnd =
    (system : System) → IsWellFormed system → (thread earlier later since : ℕ) → earlier ≤ later →
    IsUnderWay system earlier thread since → IsUnderWay system later thread since ⊎ HasEnded system earlier later thread since

-- an overdue round stays overdue until it ends, and then it missed its deadline
abbrev pub OverdueEndsWithAMiss : Type 0
OverdueEndsWithAMiss =
    (system : System) → IsWellFormed system → (thread earlier later since : ℕ) → earlier ≤ later →
    IsOverdue system earlier thread since → IsOverdue system later thread since ⊎ HasMissed system earlier later thread since

-- an untaken word stays untaken until a thread that waits first for it takes it; the round that it
-- begins is overdue until it ends, and then it missed its deadline
abbrev pub UntakenEndsWithAMiss : Type 0
UntakenEndsWithAMiss =
    (system : System) → IsWellFormed system → (note earlier later since : ℕ) → earlier ≤ later →
    IsUntaken system earlier note since → IsUntaken system later note since ⊎ WasTaken system earlier later note since
