-- The rounds of a thread among all jobs of a run.
use Rattle.std.proofs.Common.{◌≡◌, ℕ, Bool, true, false, eqb, cond, List, [], ◌∷◌, ◌++◌, reverse, Option, Some, None, refl, sym, ap, ◌∙◌, filter, option_to_list}
use Rattle.std.proofs.lemmas.List.{append-nil, append_assoc, reverse-append}
use Rattle.std.proofs.lemmas.List.Elements.{filter-append}
use Rattle.mcs_ticks.specs.declared.row.Row.{Row}
use Rattle.mcs_system.specs.System.{System}
use Rattle.mcs_verdict.specs.declared.job.Job.{Job}
use Rattle.mcs_verdict.specs.Findings.{past_of}
use Rattle.mcs_verdict.specs.Jobs.{job_of, jobs_in}
use Rattle.mcs_table.specs.Rounds.{jobs_of}
use Rattle.mcs_table.specs.laws.Runs.{JobsAreTheRuns}

abbrev own : ℕ → List Job → List Job
own thread jobs = filter (λ (job : Job). eqb job.thread thread) jobs

-- at most one job is the same in either order
either_way : (thread : ℕ) (o : Option Job) → reverse (own thread (option_to_list o)) ≡ own thread (option_to_list o)
either_way thread None = refl
either_way thread (Some found) = one (eqb found.thread thread)
  where
    one : (b : Bool) → reverse (cond b (found ∷ []) []) ≡ cond b (found ∷ []) []
    one true = refl
    one false = refl

jobs-run : (system : System) (thread : ℕ) (past rows : List Row)
    → jobs_of system thread (past_of past rows) ≡ reverse (own thread (jobs_in system past rows)) ++ jobs_of system thread past
jobs-run system thread past [] = refl
jobs-run system thread past (r ∷ rows) =
    let here : List Job = option_to_list (job_of system past r.moment r.what) in
    let rest : List Job = jobs_in system (r ∷ past) rows in
    let turned : reverse (own thread (here ++ rest)) ≡ reverse (own thread rest) ++ own thread here =
    ap reverse (filter-append (λ (job : Job). eqb job.thread thread) here rest)
    ∙ reverse-append (own thread here) (own thread rest)
    ∙ ap (λ jobs. reverse (own thread rest) ++ jobs) (either_way thread (job_of system past r.moment r.what))
    in
    jobs-run system thread (r ∷ past) rows
    ∙ sym (append_assoc (reverse (own thread rest)) (own thread here) (jobs_of system thread past))
    ∙ ap (λ jobs. jobs ++ jobs_of system thread past) (sym turned)

pub jobs-the_runs : JobsAreTheRuns
jobs-the_runs system thread rows = jobs-run system thread [] rows ∙ append-nil (reverse (own thread (jobs_in system [] rows)))
