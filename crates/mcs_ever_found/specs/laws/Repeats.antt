-- If a group of cores recurs in its findings, each of them recurs, for ever.
use Rattle.std.specs.Prelude.{◌≡◌, ℕ, ◌+◌, ◌≤◌, Bool, true, List, [], filter, map, flat_map}
use Rattle.std.specs.List.{AllByRecursion}
use Rattle.mcs_ticks.specs.declared.row.Row.{Row}
use Rattle.mcs_system.specs.System.{System, thread_part, core_of}
use Rattle.mcs_system.specs.WellFormed.{IsWellFormed}
use Rattle.mcs_core.specs.Clock.{clock, rows_of, schedule}
use Rattle.mcs_laws.specs.Turns.{cores}
use Rattle.mcs_verdict.specs.declared.finding.Found.{Found}
use Rattle.mcs_verdict.specs.declared.job.Job.{Job}
use Rattle.mcs_verdict.specs.Findings.{found_in}
use Rattle.mcs_verdict.specs.Jobs.{jobs_in}
use Rattle.mcs_ever.specs.Recurs.{Shifts, shift_of}
use Rattle.mcs_ever_found.specs.Later.{later_job, later_found}
use Rattle.mcs_ever_found.specs.Recurs.{past_before, FindingsRecur}

module _ (system : System) where
  -- the rows of time t
  abbrev pub rows_at : ℕ → List Row
  rows_at t = flat_map (λ c. rows_of system c t) (cores system)

  module _ (group : ℕ → Bool) where
    -- the findings in the group's rows of time t, by all rows before each: missed deadlines and
    -- lost signals
    abbrev pub found_at_moment : ℕ → List Found
    found_at_moment t = filter (λ (found : Found). group found.core) (found_in system (past_before system t) (rows_at t))

    -- the findings in its rows before time t
    abbrev pub found_before : ℕ → List Found
    found_before t = filter (λ (found : Found). group found.core) (found_in system [] (clock system t).rows)

    -- the findings in its rows up to the horizon
    abbrev pub found_up_to : ℕ → List Found
    found_up_to horizon = filter (λ (found : Found). group found.core) (found_in system [] (schedule system horizon))

    -- the rounds of the group's threads that end in the rows of time t, in those before time t, and
    -- in those up to the horizon
    abbrev pub is_of_group : Job → Bool
    is_of_group job = group (core_of system (thread_part system job.thread))

    abbrev pub jobs_at_moment : ℕ → List Job
    jobs_at_moment t = filter is_of_group (jobs_in system (past_before system t) (rows_at t))

    abbrev pub jobs_before : ℕ → List Job
    jobs_before t = filter is_of_group (jobs_in system [] (clock system t).rows)

    abbrev pub jobs_up_to : ℕ → List Job
    jobs_up_to horizon = filter is_of_group (jobs_in system [] (schedule system horizon))

-- from then on each finding recurs, a period later, and no others are found
abbrev pub FindingsRepeat : Type 0
FindingsRepeat =
    (system : System) (group : ℕ → Bool) (shifts : Shifts) (from : ℕ) → IsWellFormed system → FindingsRecur system group shifts from →
    (t : ℕ) → from ≤ t → found_at_moment system group (t + shifts.by) ≡ map (later_found shifts) (found_at_moment system group t)

-- if there is no missed deadline and no lost signal before the end of the first period, there is
-- none up to any horizon
abbrev pub NothingIsFound : Type 0
NothingIsFound =
    (system : System) (group : ℕ → Bool) (shifts : Shifts) (from : ℕ) → IsWellFormed system → FindingsRecur system group shifts from →
    found_before system group (from + shifts.by) ≡ [] → (horizon : ℕ) → found_up_to system group horizon ≡ []

-- a round that ended, later by the shift of its thread's core
abbrev pub later_job_of : System → Shifts → Job → Job
later_job_of system shifts job = later_job (shift_of shifts (core_of system (thread_part system job.thread))) job

-- from then on each round that ends recurs, a period later, with the same response and the same
-- parts, and no others end
abbrev pub JobsRepeat : Type 0
JobsRepeat =
    (system : System) (group : ℕ → Bool) (shifts : Shifts) (from : ℕ) → IsWellFormed system → FindingsRecur system group shifts from →
    (t : ℕ) → from ≤ t → jobs_at_moment system group (t + shifts.by) ≡ map (later_job_of system shifts) (jobs_at_moment system group t)

-- a test of rounds that depends neither on the time nor on the number of earlier rounds: if all
-- rounds pass it before the end of the first period, all do up to any horizon. The maximum response
-- of each thread before then is therefore its maximum for ever
abbrev pub JobTestsAreForever : Type 0
JobTestsAreForever =
    (system : System) (group : ℕ → Bool) (shifts : Shifts) (from : ℕ) → IsWellFormed system → FindingsRecur system group shifts from →
    (test : Job → Bool) → ((job : Job) → test job ≡ true → test (later_job_of system shifts job) ≡ true) →
    AllByRecursion (λ job. test job ≡ true) (jobs_before system group (from + shifts.by)) →
    (horizon : ℕ) → AllByRecursion (λ job. test job ≡ true) (jobs_up_to system group horizon)
