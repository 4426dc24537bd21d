-- The maximum response before the end of the first period is the maximum for ever.
use Rattle.std.proofs.Common.{◌≡◌, ℕ, ◌+◌, ◌≤◌, Bool, true, false, cond, not, ◌||◌, List, [], ◌∷◌, ◌++◌, refl, ap, ◌∙◌, Option, Some, None, arith}
use Rattle.std.specs.Prelude.{filter, max, nat_le, ◌==◌, option_to_list}
use Rattle.std.specs.List.{AllByRecursion}
use Rattle.std.proofs.lemmas.Bool.Decides.{nat_tests}
use Rattle.mcs_ticks.specs.declared.row.Row.{Row}
use Rattle.mcs_system.specs.System.{System}
use Rattle.mcs_core.specs.Clock.{clock}
use Rattle.mcs_verdict.specs.declared.job.Job.{Job}
use Rattle.mcs_verdict.specs.Findings.{past_of}
use Rattle.mcs_verdict.specs.Jobs.{job_of, jobs_in}
use Rattle.mcs_ever_found.specs.Recurs.{past_before}
use Rattle.mcs_ever_found.specs.laws.Repeats.{is_of_group}
use Rattle.mcs_ever_found.proofs.Findings.{job-tests-are-forever}
use Rattle.mcs_ever_found.specs.Course.{greater, or_greater, greatest}
use Rattle.mcs_ever_found.specs.laws.Course.{is_at_most, is_within, GreatestIsForever}

-- the maximum response only grows
at-most-more : (n a b : ℕ) → nat_le n a ≡ true → a ≤ b → nat_le n b ≡ true
at-most-more n a b h l = grind (arith, nat_tests)

self : (n : ℕ) → nat_le n n ≡ true
self n = grind (arith, nat_tests)

grows : (before : Option ℕ) (response n : ℕ) → is_at_most before n ≡ true → is_at_most (Some (greater before response)) n ≡ true
grows None response n h = cc
grows (Some before) response n h = at-most-more n before (max before response) h (omega arith)

reaches : (before : Option ℕ) (response : ℕ) → is_at_most (Some (greater before response)) response ≡ true
reaches None response = self response
reaches (Some before) response = at-most-more response response (max before response) (self response) (omega arith)

module _ (system : System) (thread : ℕ) where
  keeps : (job : Option Job) (before : Option ℕ) (n : ℕ) → is_at_most before n ≡ true → is_at_most (or_greater thread job before) n ≡ true
  keeps None before n h = h
  keeps (Some job) before n h = by (job.thread == thread)
    where
      by : (b : Bool) → is_at_most (cond b (Some (greater before job.response)) before) n ≡ true
      by true = grows before job.response n h
      by false = h

  abbrev most : List Row → Option ℕ
  most past = greatest system thread past

  keeps-all : (past rows : List Row) (n : ℕ) → is_at_most (most past) n ≡ true → is_at_most (most (past_of past rows)) n ≡ true
  keeps-all past [] n h = h
  keeps-all past (r ∷ rows) n h = keeps-all (r ∷ past) rows n (keeps (job_of system past r.moment r.what) (most past) n h)

  -- a round of the thread, right after it ended
  ended : (job : Job) (before : Option ℕ) → (job.thread == thread) ≡ true → is_at_most (or_greater thread (Some job) before) job.response ≡ true
  ended job before e = ap (λ b. is_at_most (cond b (Some (greater before job.response)) before) job.response) e ∙ reaches before job.response

  abbrev Within : List Row → List Job → Type 0
  Within past jobs = AllByRecursion (λ job. is_within system thread past job ≡ true) jobs

  both : (past : List Row) (xs ys : List Job) → Within past xs → Within past ys → Within past (xs ++ ys)
  both past [] ys g h = h
  both past (x ∷ xs) ys g h = (g.0, both past xs ys g.1 h)

  all-within : (past rows : List Row) → Within (past_of past rows) (jobs_in system past rows)
  all-within past [] = tt
  all-within past (r ∷ rows) =
      both (past_of (r ∷ past) rows) (option_to_list (job_of system past r.moment r.what)) (jobs_in system (r ∷ past) rows)
      (one (job_of system past r.moment r.what) refl) (all-within (r ∷ past) rows)
    where
      one : (o : Option Job) → job_of system past r.moment r.what ≡ o → Within (past_of (r ∷ past) rows) (option_to_list o)
      one None e = tt
      one (Some job) e = (by (job.thread == thread) refl, tt)
        where
          by : (b : Bool) → (job.thread == thread) ≡ b → (not b || is_at_most (most (past_of (r ∷ past) rows)) job.response) ≡ true
          by false f = refl
          by true f =
              keeps-all (r ∷ past) rows job.response (ap (λ o. is_at_most (or_greater thread o (most past)) job.response) e ∙ ended job (most past) f)

  some-within : (group : ℕ → Bool) (past : List Row) (jobs : List Job) → Within past jobs → Within past (filter (is_of_group system group) jobs)
  some-within group past [] h = tt
  some-within group past (job ∷ jobs) h = by (is_of_group system group job) (some-within group past jobs h.1)
    where
      by : (b : Bool) → Within past (filter (is_of_group system group) jobs) →
          Within past (cond b (job ∷ filter (is_of_group system group) jobs) (filter (is_of_group system group) jobs))
      by true rest = (h.0, rest)
      by false rest = rest

pub greatest-is-forever : GreatestIsForever
greatest-is-forever system group shifts from well recur thread horizon =
    job-tests-are-forever system group shifts from well recur (is_within system thread (past_before system (from + shifts.by))) (λ job h. h)
    (some-within system thread group (past_before system (from + shifts.by)) (jobs_in system [] (clock system (from + shifts.by)).rows)
    (all-within system thread [] (clock system (from + shifts.by)).rows)) horizon
