-- Rounds that ended (jobs), each by the rows before its end.
use Rattle.std.specs.Prelude.{ℕ, ◌-◌, ◌==◌, nat_lt, if◌then◌else◌, List, [], ◌∷◌, ◌++◌, length, Option, Some, None, option_to_list}
use Rattle.mcs_ticks.specs.Capped.{one_more}
use Rattle.mcs_ticks.specs.declared.row.Row.{Row}
use Rattle.mcs_ticks.specs.declared.row.What.{What}
use Rattle.mcs_ticks.specs.declared.row.What.TheVariants as row
use Rattle.mcs_ticks.specs.declared.row.Why.TheVariants as why
use Rattle.mcs_system.specs.System.{System, thread_part}
use Rattle.mcs_verdict.specs.declared.job.Job.{Job}
use Rattle.mcs_verdict.specs.declared.standing.Stood.{Stood}
use Rattle.mcs_verdict.specs.Parts.{free_of, queued_in, parts_in}
use Rattle.mcs_verdict.specs.Calls.{bits_of}
use Rattle.mcs_verdict.specs.Rounds.{first_wait, begun, begun_of, activated_of}

-- a preemption counts if a round is under way
abbrev pub with_preemption : Option ℕ → ℕ → ℕ
with_preemption None n = n
with_preemption (Some begun) n = one_more n

-- the preemptions of the round under way after this row; a round that ends leaves 0
abbrev pub preemptions_after : ℕ → Option ℕ → What → ℕ → ℕ
preemptions_after thread begun (row.Round x number response) n = if x == thread then 0 else n
preemptions_after thread begun (row.Stop x why.Done charged until) n = if x == thread then 0 else n
preemptions_after thread begun (row.Stop x why.Preempt charged until) n = if x == thread then with_preemption begun n else n
preemptions_after thread begun _ n = n

-- how often the thread's round under way was preempted; 0 if no round is under way
abbrev pub preemptions : Option ℕ → Option ℕ → ℕ → ℕ → List Row → ℕ
preemptions waits bits start thread [] = 0
preemptions waits bits start thread (r ∷ past) =
    preemptions_after thread (begun waits bits start thread past) r.what (preemptions waits bits start thread past)

abbrev pub preemptions_of : System → ℕ → List Row → ℕ
preemptions_of system thread past =
    let part = thread_part system thread in
    preemptions (first_wait part) (bits_of part) part.start thread past

-- the earlier time, or this one if the rows have none
abbrev pub or_now : ℕ → Option ℕ → ℕ
or_now moment None = moment
or_now moment (Some earlier) = earlier

-- a round that ends at this time
abbrev pub ended : ℕ → ℕ → ℕ → ℕ → ℕ → ℕ → ℕ → Stood → Job
ended moment thread number free begun activated preemptions stood =
    record {
      thread = thread;
      number = number;
      activated = activated;
      begun = begun;
      ended = moment;
      response = moment - activated;
      queued = queued_in free activated;
      preemptions = preemptions;
      stood = stood;
    }

-- the round, by the rows before its end
abbrev pub job : System → List Row → ℕ → ℕ → ℕ → Job
job system past moment thread number =
    let free = free_of system thread past in
    let activated = or_now moment (activated_of system thread past moment) in
    ended moment thread number free (or_now moment (begun_of system thread past)) activated
    (preemptions_of system thread past) (parts_in thread past free activated moment)

-- only for a thread of the system
abbrev pub job_known : System → List Row → ℕ → ℕ → ℕ → Option Job
job_known system past moment thread number =
    if nat_lt thread (length system.threads) then Some (job system past moment thread number) else None

-- the round that a row after these ends
abbrev pub job_of : System → List Row → ℕ → What → Option Job
job_of system past moment (row.Round thread number response) = job_known system past moment thread number
job_of system past moment _ = None

-- the rounds that these rows end, each by the rows before it
abbrev pub jobs_in : System → List Row → List Row → List Job
jobs_in system past [] = []
jobs_in system past (r ∷ rows) = option_to_list (job_of system past r.moment r.what) ++ jobs_in system (r ∷ past) rows
