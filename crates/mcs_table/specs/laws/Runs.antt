-- The rounds that are counted are the run's jobs.
use Rattle.std.specs.Prelude.{ℕ, ◌≡◌, ◌==◌, List, [], reverse, filter}
use Rattle.mcs_ticks.specs.declared.row.Row.{Row}
use Rattle.mcs_system.specs.System.{System}
use Rattle.mcs_verdict.specs.Findings.{past_of}
use Rattle.mcs_verdict.specs.Jobs.{jobs_in}
use Rattle.mcs_table.specs.Rounds.{jobs_of}

-- the thread's jobs among those of a run, the latest first
abbrev pub JobsAreTheRuns : Type 0
JobsAreTheRuns =
    (system : System) (thread : ℕ) (rows : List Row) →
    jobs_of system thread (past_of [] rows) ≡ reverse (filter (λ job. job.thread == thread) (jobs_in system [] rows))
