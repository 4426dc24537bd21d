-- The places of a row's counts.
use Rattle.std.specs.Prelude.{ℕ, Bool, true, List, get_or, set, Option, Some, None}
use Rattle.mcs_ticks.specs.Capped.{one_more}
use Rattle.mcs_ticks.specs.declared.row.What.{What}
use Rattle.mcs_ticks.specs.declared.row.What.TheVariants as row
use Rattle.mcs_ticks.specs.declared.row.Why.TheVariants as why
use Rattle.mcs_verdict.specs.declared.finding.Finding.{Finding}
use Rattle.mcs_verdict.specs.declared.finding.Finding.TheVariants.{Miss, Lost}
use Rattle.mcs_verdict.specs.declared.job.Job.{Job}
use Rattle.mcs_ever_found.specs.Course.{greater}

-- the thread that missed its deadline
abbrev pub missed_by : Option Finding → Option ℕ
missed_by (Some (Miss x number response deadline activated queued stood)) = Some x
missed_by _ = None

-- the notification that lost a signal
abbrev pub lost_at : Option Finding → Option ℕ
lost_at (Some (Lost x word)) = Some x
lost_at _ = None

-- the thread that stops because its head or its time slice is wholly used
abbrev pub spent_by : What → Option ℕ
spent_by (row.Stop x why.Spent charged until) = Some x
spent_by _ = None

-- one more at a place, if it is one of the list
abbrev pub counted : Option ℕ → List ℕ → List ℕ
counted None counts = counts
counted (Some x) counts = set counts x (one_more (get_or counts x 0))

-- the maximum response of the job's thread after it
abbrev pub raised : Option Job → List (Option ℕ) → List (Option ℕ)
raised None greatest = greatest
raised (Some job) greatest = set greatest job.thread (Some (greater (get_or greatest job.thread None) job.response))

-- the flag at a place is set
abbrev pub marked : Option ℕ → List Bool → List Bool
marked None marks = marks
marked (Some x) marks = set marks x true
