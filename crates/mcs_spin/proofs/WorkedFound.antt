-- What is found of a guest and a thread with a deadline, by the rows of both systems, worked by hand.
use Rattle.std.specs.Prelude.{◌≡◌, ℕ, ◌+◌, Bool, true, false, List, [], ◌∷◌, refl}
use Rattle.mcs_ticks.specs.declared.row.What.{What}
use Rattle.mcs_ticks.specs.declared.row.What.TheVariants as row
use Rattle.mcs_ticks.specs.declared.row.Why.TheVariants as why
use Rattle.mcs_script.specs.declared.item.Item.TheVariants.{Compute}
use Rattle.mcs_control.specs.declared.config.Mode.TheVariants.{Sporadic}
use Rattle.mcs_system.specs.declared.part.ContextPart.{ContextPart}
use Rattle.mcs_system.specs.declared.part.ThreadPart.{ThreadPart}
use Rattle.mcs_system.specs.System.{System}
use Rattle.mcs_core.specs.Clock.{schedule}
use Rattle.mcs_verdict.specs.declared.finding.Finding.TheVariants.{Overdue}
use Rattle.mcs_verdict.specs.declared.finding.Found.{Found}
use Rattle.mcs_verdict.specs.declared.job.Job.{Job}
use Rattle.mcs_verdict.specs.declared.standing.Stood.{Stood}
use Rattle.mcs_verdict.specs.Findings.{past_of}
use Rattle.mcs_spin.specs.Spun.{spun}
use Rattle.mcs_spin.specs.laws.Verdicts.{findings_to, jobs_to, other_jobs, has_passed}

-- a thread of a context, with its priority and deadline, that computes in each round
abbrev thread : ℕ → ℕ → ℕ → ℕ → ThreadPart
thread context priority deadline ticks =
    record { name = []; context = context; priority = priority; start = 0; rounds = 0; deadline = deadline; script = Compute ticks ∷ [] }

abbrev context : ℕ → ℕ → ContextPart
context budget period = record { name = []; core = 0; config = record { budget = budget; period = period; extra = 0 }; mode = Sporadic }

-- Thread 0 only computes, 2 ticks in each round, round robin with slices of 5 ticks. Thread 1 has
-- this priority, a budget of 1 in 3 ticks, a deadline of 3, and computes 1 tick.
abbrev beside : ℕ → System
beside priority =
    record {
      cores = 1;
      delay = 1;
      call = 1;
      min_budget = 1;
      contexts = context 5 5 ∷ context 1 3 ∷ [];
      notes = [];
      threads = thread 0 5 0 2 ∷ thread 1 priority 3 1 ∷ [];
      orders = [];
      links = [];
      servers = 0;
      sources = [];
      beats = [];
      chains = [];
    }

abbrev parts : ℕ → ℕ → Stood
parts ready running = record { pending = 0; ready = ready; running = running; throttled = 0; blocked = 0; server = 0; done = 0 }

-- a job that was not queued, and not preempted
abbrev done : ℕ → ℕ → ℕ → ℕ → ℕ → Stood → Job
done thread number activated begun ended stood =
    record {
      thread = thread;
      number = number;
      activated = activated;
      begun = begun;
      ended = ended;
      response = stood.ready + stood.running;
      queued = 0;
      preemptions = 0;
      stood = stood;
    }

-- with less priority than the guest, thread 1 is ready and never runs
abbrev starves : List Found
starves = record { moment = 4; core = 0; finding = Overdue 1 1 4 3 0 0 (parts 4 0) } ∷ []

starves_beside : findings_to (beside 1) 4 ≡ starves
starves_beside = refl

starves_spun : findings_to (spun (beside 1)) 4 ≡ starves
starves_spun = refl

-- the guest ends two rounds in that time, at 2 and at 4, and none if it spins
rounds_beside : jobs_to (beside 1) 4 ≡ done 0 1 0 0 2 (parts 0 2) ∷ done 0 2 2 2 4 (parts 0 2) ∷ []
rounds_beside = refl

no_others : other_jobs (beside 1) (jobs_to (beside 1) 4) ≡ []
no_others = refl

none_spun : jobs_to (spun (beside 1)) 4 ≡ []
none_spun = refl

-- With more priority it runs at 0, and again at 3, when its budget is replenished. The guest runs in
-- the two ticks between, and its first round ends at 3.
abbrev others : List Job
others = done 1 1 0 0 1 (parts 0 1) ∷ done 1 2 3 1 4 (parts 0 1) ∷ []

first_beside : jobs_to (beside 9) 4 ≡ done 1 1 0 0 1 (parts 0 1) ∷ done 0 1 0 0 3 (parts 1 2) ∷ done 1 2 3 1 4 (parts 0 1) ∷ []
first_beside = refl

others_beside : other_jobs (beside 9) (jobs_to (beside 9) 4) ≡ others
others_beside = refl

others_spun : jobs_to (spun (beside 9)) 4 ≡ others
others_spun = refl

nothing_beside : findings_to (beside 9) 4 ≡ []
nothing_beside = refl

nothing_spun : findings_to (spun (beside 9)) 4 ≡ []
nothing_spun = refl

-- its budget is exhausted at 1, and not before
abbrev is_exhausted : What → Bool
is_exhausted (row.Stop thread why.Spent charged until) = true
is_exhausted _ = false

exhausted_beside : has_passed is_exhausted (past_of [] (schedule (beside 9) 1)) ≡ true
exhausted_beside = refl

exhausted_spun : has_passed is_exhausted (past_of [] (schedule (spun (beside 9)) 1)) ≡ true
exhausted_spun = refl

not_before : has_passed is_exhausted (past_of [] (schedule (beside 9) 0)) ≡ false
not_before = refl
