-- The findings and jobs of a system and of its spun one.
use Rattle.std.specs.Prelude.{◌≡◌, ℕ, Bool, false, not, List, [], filter}
use Rattle.std.specs.List.{list_any}
use Rattle.mcs_ticks.specs.declared.row.Row.{Row}
use Rattle.mcs_ticks.specs.declared.row.What.{What}
use Rattle.mcs_ticks.specs.declared.row.What.TheVariants as row
use Rattle.mcs_system.specs.System.{System}
use Rattle.mcs_system.specs.WellFormed.{IsWellFormed}
use Rattle.mcs_core.specs.Clock.{schedule}
use Rattle.mcs_verdict.specs.declared.finding.Found.{Found}
use Rattle.mcs_verdict.specs.declared.job.Job.{Job}
use Rattle.mcs_verdict.specs.Findings.{findings, past_of}
use Rattle.mcs_verdict.specs.Jobs.{jobs_in}
use Rattle.mcs_spin.specs.Spun.{spun, is_spun}

-- the findings of a run up to the horizon
abbrev pub findings_to : System → ℕ → List Found
findings_to system horizon = findings system horizon (schedule system horizon)

abbrev pub FindingsAreSpun : Type 0
FindingsAreSpun =
    (system : System) → IsWellFormed system → (horizon : ℕ) → findings_to system horizon ≡ findings_to (spun system) horizon

-- the jobs of a run up to the horizon, and those of threads that do not only compute
abbrev pub jobs_to : System → ℕ → List Job
jobs_to system horizon = jobs_in system [] (schedule system horizon)

abbrev pub other_jobs : System → List Job → List Job
other_jobs system jobs = filter (λ (job : Job). not (is_spun system job.thread)) jobs

abbrev pub JobsAreSpun : Type 0
JobsAreSpun =
    (system : System) → IsWellFormed system → (horizon : ℕ) → other_jobs system (jobs_to system horizon) ≡ jobs_to (spun system) horizon

-- no end of a round passes the test
abbrev pub PassesNoRound : (What → Bool) → Type 0
PassesNoRound test = (thread number response : ℕ) → test (row.Round thread number response) ≡ false

-- whether a row up to the horizon passes it
abbrev pub has_passed : (What → Bool) → List Row → Bool
has_passed test past = list_any (λ (r : Row). test r.what) past

-- such a test, as whether a row stops a thread with its budget exhausted, says the same of both
abbrev pub TestsAreSpun : Type 0
TestsAreSpun =
    (system : System) → IsWellFormed system → (test : What → Bool) → PassesNoRound test → (horizon : ℕ) →
    has_passed test (past_of [] (schedule system horizon)) ≡ has_passed test (past_of [] (schedule (spun system) horizon))
