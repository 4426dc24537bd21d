-- A thread that misses no deadline by the end of the first period never misses one, and a
-- notification that loses no signal by then never loses one.
use Rattle.std.specs.Prelude.{◌≡◌, ℕ, suc, ◌+◌, ◌≤◌, Bool, true, false, ◌==◌, List, [], None}
use Rattle.std.specs.List.{list_any}
use Rattle.mcs_system.specs.System.{System, thread_part, note_part, core_of}
use Rattle.mcs_system.specs.WellFormed.{IsWellFormed}
use Rattle.mcs_core.specs.Clock.{schedule}
use Rattle.mcs_verdict.specs.declared.finding.Finding.{Finding}
use Rattle.mcs_verdict.specs.declared.finding.Finding.TheVariants.{Lost}
use Rattle.mcs_verdict.specs.declared.finding.Found.{Found}
use Rattle.mcs_verdict.specs.Findings.{past_of, found_in}
use Rattle.mcs_verdict.specs.Misses.{overdue}
use Rattle.mcs_verdict_laws.specs.laws.Horizons.{has_miss_of}
use Rattle.mcs_ever.specs.Recurs.{Shifts}
use Rattle.mcs_ever_found.specs.Recurs.{FindingsRecur}

-- whether a signal of the notification was lost
abbrev pub is_lost_of : ℕ → Finding → Bool
is_lost_of note (Lost n word) = n == note
is_lost_of note _ = false

abbrev pub has_lost_of : ℕ → List Found → Bool
has_lost_of note found = list_any (λ (f : Found). is_lost_of note f.finding) found

module _ (system : System) (horizon : ℕ) where
  -- the findings in all rows up to the horizon
  abbrev pub told_up_to : List Found
  told_up_to = found_in system [] (schedule system horizon)

  -- no round of the thread missed its deadline up to the horizon, and none is overdue at the horizon
  pub record IsInTime (thread : ℕ) : Type 0 where
    pub missed : has_miss_of thread told_up_to ≡ false
    pub overdue : overdue system (past_of [] (schedule system horizon)) horizon thread ≡ None

-- if no round of a thread of the group missed its deadline before the end of the first period, none
-- does up to any horizon
abbrev pub NoDeadlineIsMissed : Type 0
NoDeadlineIsMissed =
    (system : System) (group : ℕ → Bool) (shifts : Shifts) (from : ℕ) → IsWellFormed system → FindingsRecur system group shifts from →
    (thread : ℕ) → group (core_of system (thread_part system thread)) ≡ true →
    (last : ℕ) → from + shifts.by ≤ suc last → has_miss_of thread (told_up_to system last) ≡ false →
    (horizon : ℕ) → has_miss_of thread (told_up_to system horizon) ≡ false

-- if a notification of the group lost no signal before the end of the first period, it loses none
-- up to any horizon
abbrev pub NoSignalIsLost : Type 0
NoSignalIsLost =
    (system : System) (group : ℕ → Bool) (shifts : Shifts) (from : ℕ) → IsWellFormed system → FindingsRecur system group shifts from →
    (note : ℕ) → group (note_part system note).core ≡ true →
    (last : ℕ) → from + shifts.by ≤ suc last → has_lost_of note (told_up_to system last) ≡ false →
    (horizon : ℕ) → has_lost_of note (told_up_to system horizon) ≡ false
