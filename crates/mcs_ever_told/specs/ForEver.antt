-- What single lines of a set that recurs say of all horizons.
use Rattle.std.specs.Prelude.{◌≡◌, ℕ, ◌+◌, ◌-◌, ◌*◌, ◌^◌, ◌<◌, ◌≤◌, Bool, true, false, List, [], ◌∷◌, map, Option, Some, None}
use Rattle.std.specs.List.{AllByRecursion}
use Rattle.mcs_ticks.specs.declared.row.Row.{Row}
use Rattle.mcs_script.specs.declared.item.Item.TheVariants.{Spin}
use Rattle.mcs_system.specs.System.{System, thread_part}
use Rattle.mcs_core.specs.Clock.{turn_of, schedule}
use Rattle.mcs_verdict.specs.declared.finding.Finding.TheVariants.{Untaken, Never}
use Rattle.mcs_verdict.specs.declared.job.Job.{Job}
use Rattle.mcs_verdict.specs.Takers.{due_of}
use Rattle.mcs_verdict.specs.Findings.{past_of}
use Rattle.mcs_verdict.specs.Jobs.{jobs_in}
use Rattle.mcs_ever.specs.Closed.{has}
use Rattle.mcs_ever.specs.Later.{later_what}
use Rattle.mcs_ever.specs.Recurs.{Shifts, shift_of}
use Rattle.mcs_ever.specs.laws.Repeats.{EndsNoRound}
use Rattle.mcs_ever_found.specs.Recurs.{past_before}
use Rattle.mcs_ever_found.specs.Course.{greatest, was_spent}
use Rattle.mcs_ever_found.specs.laws.Course.{is_at_most}
use Rattle.mcs_ever_found.specs.laws.GoOn.{never_up_to, untaken_up_to, IsOverdueRound}
use Rattle.mcs_ever_told.specs.declared.line.Often.{Often}
use Rattle.mcs_ever_told.specs.declared.line.Often.TheVariants.{Forever, SoFar}
use Rattle.mcs_ever_told.specs.declared.outlook.told.Period.{Period}

module _ (system : System) where
  -- each turn of these cores from this time on makes the rows that it made a period before, but
  -- later
  pub record RowsRepeat (cores : List Bool) (from period : ℕ) : Type 0 where
    pub shifts : Shifts
    pub by : shifts.by ≡ period
    pub each : (t c : ℕ) → from ≤ t → c < system.cores → has cores c ≡ true →
        (turn_of system c (t + period)).rows ≡ map (later_what (shift_of shifts c)) (turn_of system c t).rows

  -- no job of the thread has a longer response up to any horizon; without a number it has no job
  abbrev pub IsNeverLonger : ℕ → Option ℕ → Type 0
  IsNeverLonger thread response =
      (h : ℕ) → AllByRecursion (λ (job : Job). job.thread ≡ thread → is_at_most response job.response ≡ true) (jobs_in system [] (schedule system h))

  -- no row stops the thread with its budget exhausted, up to any horizon
  abbrev pub IsNeverThrottled : ℕ → Type 0
  IsNeverThrottled thread = (h : ℕ) → was_spent thread (past_of [] (schedule system h)) ≡ false

  -- no round of the thread ends from this time on, up to any horizon
  abbrev pub IsSilentFrom : ℕ → Option ℕ → Type 0
  IsSilentFrom thread None = Unit {0}
  IsSilentFrom thread (Some from) = (h : ℕ) → EndsNoRound system thread from h

  -- the line of a thread that computes without end: its script is the one item `spin`, and no job of
  -- it ends up to any horizon
  pub record ComputesForEver (thread : ℕ) (never_throttled : Bool) : Type 0 where
    pub script : (thread_part system thread).script ≡ Spin ∷ []
    pub endless : IsNeverLonger thread None
    pub throttled : never_throttled ≡ true → IsNeverThrottled thread

  module _ (p : Period) where
    -- a number of times before the first period, and a number in each period, however late it is
    pub record Happens (count : List Row → ℕ) (before each_period : ℕ) : Type 0 where
      pub first : count (past_before system p.from) ≡ before
      pub each : (k : ℕ) → count (past_before system (p.from + (k + 1) * p.ticks)) ≡ count (past_before system (p.from + k * p.ticks)) + each_period

    -- a check counts to 2^64 - 1, and stays there
    abbrev pub IsOften : (List Row → ℕ) → Often → Type 0
    IsOften count (Forever before each_period) = before + each_period < 2 ^ 64 - 1 → Happens count before each_period
    IsOften count (SoFar times) = ⊥

    -- the line of a thread. The response is the maximum up to each horizon from the end of the
    -- first period on
    pub record ThreadIsSo (thread : ℕ) (response : Option ℕ) (never_throttled : Bool) (silent_from : Option ℕ) : Type 0 where
      pub longest : IsNeverLonger thread response
      pub reached : (h : ℕ) → p.from + p.ticks ≤ h + 1 → greatest system thread (past_of [] (schedule system h)) ≡ response
      pub throttled : never_throttled ≡ true → IsNeverThrottled thread
      pub silent : IsSilentFrom thread silent_from

    -- the round of the thread with this number, which was activated at this time, is overdue at each
    -- horizon from the last moment of the first period on at which its deadline has passed
    abbrev pub IsEndless : ℕ → ℕ → ℕ → Type 0
    IsEndless thread number activated =
        (h : ℕ) → p.from + p.ticks ≤ h + 1 → (thread_part system thread).deadline ≤ h - activated →
        IsOverdueRound system h thread number (thread_part system thread).deadline activated

    -- the thread was not activated up to any horizon from the last moment of the first period on
    abbrev pub IsInactive : ℕ → Type 0
    IsInactive thread =
        (h : ℕ) → p.from + p.ticks ≤ h + 1 → never_up_to system h thread ≡ Some (Never thread (thread_part system thread).deadline)

    -- the notification has a deadline. This word of it, which was set at this time, is untaken at
    -- each horizon from the last moment of the first period on at which the deadline has passed
    pub record IsAbandoned (note word set : ℕ) : Type 0 where
      pub deadline : ℕ
      pub due : due_of note system.threads ≡ Some deadline
      pub untaken : (h : ℕ) → p.from + p.ticks ≤ h + 1 → deadline ≤ h - set →
          untaken_up_to system h note ≡ Some (Untaken note word (h - set) deadline set)
