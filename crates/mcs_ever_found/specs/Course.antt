-- The counts of a schedule's rows so far, thread by thread and notification by notification. The
-- rows are the latest first.
use Rattle.std.specs.Prelude.{ℕ, ◌+◌, ◌==◌, max, Bool, false, if◌then◌else◌, List, [], ◌∷◌, map, length, Option, Some, None}
use Rattle.std.specs.List.{list_any, range_with_len}
use Rattle.mcs_ticks.specs.Capped.{capped}
use Rattle.mcs_ticks.specs.declared.row.Row.{Row}
use Rattle.mcs_ticks.specs.declared.row.What.{What}
use Rattle.mcs_ticks.specs.declared.row.What.TheVariants as row
use Rattle.mcs_ticks.specs.declared.row.Why.TheVariants as why
use Rattle.mcs_system.specs.System.{System}
use Rattle.mcs_verdict.specs.declared.finding.Finding.{Finding}
use Rattle.mcs_verdict.specs.declared.finding.Finding.TheVariants.{Miss, Lost}
use Rattle.mcs_verdict.specs.declared.job.Job.{Job}
use Rattle.mcs_verdict.specs.Findings.{finding}
use Rattle.mcs_verdict.specs.Jobs.{job_of}

-- whether a finding is a deadline miss of the thread
abbrev pub is_miss : ℕ → Option Finding → Bool
is_miss thread (Some (Miss x number response deadline activated queued stood)) = x == thread
is_miss thread _ = false

-- whether a finding is a signal lost at the notification
abbrev pub is_loss : ℕ → Option Finding → Bool
is_loss note (Some (Lost x word)) = x == note
is_loss note _ = false

-- whether the thread stops because the head of its context's refills, or its time slice, is wholly
-- used
abbrev pub is_spent : ℕ → What → Bool
is_spent thread (row.Stop x why.Spent charged until) = x == thread
is_spent thread _ = false

-- the maximum of a response and the earlier maximum
abbrev pub greater : Option ℕ → ℕ → ℕ
greater None response = response
greater (Some before) response = max before response

-- the maximum response of the thread after a job
abbrev pub or_greater : ℕ → Option Job → Option ℕ → Option ℕ
or_greater thread None before = before
or_greater thread (Some job) before = if job.thread == thread then Some (greater before job.response) else before

module _ (system : System) where
  -- the number of findings that pass a test, each of a row by those before it
  abbrev pub times : (Option Finding → Bool) → List Row → ℕ
  times test [] = 0
  times test (r ∷ past) = (if test (finding system past r.moment r.what) then 1 else 0) + times test past

  -- the number of rounds of the thread that missed their deadline
  abbrev pub misses : ℕ → List Row → ℕ
  misses thread past = times (is_miss thread) past

  -- the number of signals lost at the notification
  abbrev pub losses : ℕ → List Row → ℕ
  losses note past = times (is_loss note) past

  -- the maximum response of the thread's jobs, from their activations, if a round of it ended
  abbrev pub greatest : ℕ → List Row → Option ℕ
  greatest thread [] = None
  greatest thread (r ∷ past) = or_greater thread (job_of system past r.moment r.what) (greatest thread past)

-- whether the thread was ever stopped with its budget exhausted
abbrev pub was_spent : ℕ → List Row → Bool
was_spent thread past = list_any (λ (r : Row). is_spent thread r.what) past

-- the counts of each thread, and the lost signals of each notification; numbers as 64 bits hold
-- them
pub record Course : Type 0 where
  pub misses : List ℕ
  pub greatest : List (Option ℕ)
  pub spent : List Bool
  pub losses : List ℕ

abbrev pub course_of : System → List Row → Course
course_of system past =
    record {
      misses = map (λ thread. capped (misses system thread past)) (range_with_len 0 (length system.threads));
      greatest = map (λ thread. greatest system thread past) (range_with_len 0 (length system.threads));
      spent = map (λ thread. was_spent thread past) (range_with_len 0 (length system.threads));
      losses = map (λ note. capped (losses system note past)) (range_with_len 0 (length system.notes));
    }
