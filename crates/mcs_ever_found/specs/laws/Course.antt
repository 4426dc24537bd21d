-- The counts before the end of the first period settle those of all later rows.
use Rattle.std.specs.Prelude.{◌≡◌, ℕ, ◌+◌, ◌<◌, Bool, true, false, ◌||◌, not, ◌==◌, nat_le, List, [], length, Option, Some, None}
use Rattle.std.specs.List.{AllByRecursion}
use Rattle.mcs_ticks.specs.declared.row.Row.{Row}
use Rattle.mcs_system.specs.System.{System, thread_part, note_part, core_of}
use Rattle.mcs_system.specs.WellFormed.{IsWellFormed}
use Rattle.mcs_verdict.specs.declared.job.Job.{Job}
use Rattle.mcs_ever.specs.Recurs.{Shifts, Recurs}
use Rattle.mcs_ever_found.specs.Recurs.{past_before, FindingsRecur}
use Rattle.mcs_ever_found.specs.laws.Repeats.{found_before, jobs_up_to}
use Rattle.mcs_ever_found.specs.Course.{misses, losses, greatest, was_spent}

-- whether a response is at most the maximum
abbrev pub is_at_most : Option ℕ → ℕ → Bool
is_at_most None response = false
is_at_most (Some greatest) response = nat_le response greatest

-- whether a round is another thread's, or its response is at most the thread's maximum in these
-- rows
abbrev pub is_within : System → ℕ → List Row → Job → Bool
is_within system thread past job = not (job.thread == thread) || is_at_most (greatest system thread past) job.response

-- the maximum response of a thread before the end of the first period is its maximum for ever
abbrev pub GreatestIsForever : Type 0
GreatestIsForever =
    (system : System) (group : ℕ → Bool) (shifts : Shifts) (from : ℕ) → IsWellFormed system → FindingsRecur system group shifts from →
    (thread horizon : ℕ) →
    AllByRecursion (λ job. is_within system thread (past_before system (from + shifts.by)) job ≡ true) (jobs_up_to system group horizon)

-- a thread of the group that was not stopped with its budget exhausted before then never is
abbrev pub NeverSpent : Type 0
NeverSpent =
    (system : System) (group : ℕ → Bool) (shifts : Shifts) (from : ℕ) → IsWellFormed system → Recurs system group shifts from →
    (thread : ℕ) → group (core_of system (thread_part system thread)) ≡ true → was_spent thread (past_before system (from + shifts.by)) ≡ false →
    (t : ℕ) → was_spent thread (past_before system t) ≡ false

-- without a counted miss of a thread of the group before a moment, and without a lost signal at a
-- notification of it, the group has no finding before then
abbrev pub NoneIsCounted : Type 0
NoneIsCounted =
    (system : System) (group : ℕ → Bool) → IsWellFormed system → (t : ℕ) →
    ((thread : ℕ) → thread < length system.threads → group (core_of system (thread_part system thread)) ≡ true →
    misses system thread (past_before system t) ≡ 0) →
    ((note : ℕ) → note < length system.notes → group (note_part system note).core ≡ true → losses system note (past_before system t) ≡ 0) →
    found_before system group t ≡ []
