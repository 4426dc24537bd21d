-- The rounds of a thread that ended, by the rows so far, the latest first.
use Rattle.std.specs.Prelude.{ℕ, ◌-◌, max, Bool, false, ◌==◌, ◌&&◌, nat_lt, if◌then◌else◌, Option, Some, None, option_to_list}
use Rattle.std.specs.Prelude.{List, [], ◌∷◌, ◌++◌, length, map, filter, count_by}
use Rattle.std.specs.List.{reduce}
use Rattle.mcs_ticks.specs.declared.row.Row.{Row}
use Rattle.mcs_ticks.specs.declared.row.What.{What}
use Rattle.mcs_ticks.specs.declared.row.What.TheVariants as row
use Rattle.mcs_system.specs.System.{System, thread_part}
use Rattle.mcs_histogram.specs.Histogram.{counted, told_percentile}
use Rattle.mcs_verdict.specs.declared.job.Job.{Job}
use Rattle.mcs_verdict.specs.Jobs.{job_of}
use Rattle.mcs_verdict.specs.Misses.{is_above}
use Rattle.mcs_table.specs.declared.figures.Margin.{Margin}
use Rattle.mcs_table.specs.declared.figures.Margin.TheVariants.{Left, Over}
use Rattle.mcs_table.specs.declared.figures.Rounds.{Rounds}
use Rattle.mcs_ticks.specs.Capped.{capped}

-- the thread's rounds that ended, the latest first
abbrev pub jobs_of : System → ℕ → List Row → List Job
jobs_of system thread [] = []
jobs_of system thread (r ∷ past) =
    filter (λ job. job.thread == thread) (option_to_list (job_of system past r.moment r.what)) ++ jobs_of system thread past

-- their responses, each from its activation
abbrev pub responses_of : System → ℕ → List Row → List ℕ
responses_of system thread past = map (λ job. job.response) (jobs_of system thread past)

-- the worst response, if there is one
abbrev pub greatest : List ℕ → Option ℕ
greatest responses = reduce max responses

-- the number of responses above the deadline; one at the deadline itself is not above, and 0 is no
-- deadline
abbrev pub missed_in : ℕ → List ℕ → ℕ
missed_in deadline responses = count_by (is_above deadline) responses

-- whether this ends a round of the thread and has a response above the deadline, counted from its
-- beginning
abbrev pub is_late : ℕ → ℕ → What → Bool
is_late deadline thread (row.Round x number response) = x == thread && is_above deadline response
is_late deadline thread _ = false

-- the number of late rounds of the thread
abbrev pub late_in : ℕ → ℕ → List Row → ℕ
late_in deadline thread past = count_by (λ r. is_late deadline thread r.what) past

-- how far a response is from the deadline
abbrev pub from_deadline : ℕ → ℕ → Margin
from_deadline deadline response = if nat_lt deadline response then Over (response - deadline) else Left (deadline - response)

-- how far the worst response is from the deadline, if there are both
abbrev pub margin : ℕ → Option ℕ → Option Margin
margin deadline None = None
margin deadline (Some response) = if deadline == 0 then None else Some (from_deadline deadline response)

-- the figures of rounds with these responses, `late` of them late, in a run up to the horizon
abbrev pub rounds_of : ℕ → ℕ → List ℕ → ℕ → Rounds
rounds_of horizon deadline responses late =
    record {
      ended = capped (length responses);
      greatest = greatest responses;
      fiftieth = told_percentile 50 (counted horizon responses);
      ninetieth = told_percentile 90 (counted horizon responses);
      ninety_ninth = told_percentile 99 (counted horizon responses);
      missed = capped (missed_in deadline responses);
      late = capped late;
    }

-- the figures of the thread's rounds
abbrev pub rounds_in : System → ℕ → ℕ → List Row → Rounds
rounds_in system horizon thread past =
    let deadline = (thread_part system thread).deadline in
    rounds_of horizon deadline (responses_of system thread past) (late_in deadline thread past)
