-- Both systems have the same findings and jobs, by rows of which one has not the ends of rounds of
-- threads that only compute.
use Rattle.std.proofs.Common.{◌≡◌, ℕ, suc, Bool, true, false, cond, List, [], ◌∷◌, ◌++◌, map, length, Option, Some, None, refl, sym, ap, ◌∙◌, arith}
use Rattle.std.specs.Prelude.{not, nat_lt, option_to_list}
use Rattle.std.proofs.lemmas.Bool.{true≢false, not-true, not-false}
use Rattle.std.proofs.lemmas.Bool.Decides.{nat_tests}
use Rattle.std.proofs.lemmas.List.{length-map}
use Rattle.std.proofs.lemmas.List.Elements.{filter-append}
use Rattle.mcs_ticks.specs.declared.row.Row.{Row}
use Rattle.mcs_ticks.specs.declared.row.What.{What}
use Rattle.mcs_ticks.specs.declared.row.What.TheVariants as row
use Rattle.mcs_system.specs.declared.part.NotePart.{NotePart}
use Rattle.mcs_system.specs.declared.part.ThreadPart.{ThreadPart}
use Rattle.mcs_system.specs.System.{System, thread_part}
use Rattle.mcs_verdict.specs.declared.finding.Finding.TheVariants.{Lost}
use Rattle.mcs_verdict.specs.declared.held.Held.{Held}
use Rattle.mcs_verdict.specs.declared.job.Job.{Job}
use Rattle.mcs_verdict.specs.Due.{calls_each, untaken_by, untaken}
use Rattle.mcs_verdict.specs.Findings.{past_of, found_at, finding, found_in, found_at_end, untaken_at_end, findings}
use Rattle.mcs_verdict.specs.Jobs.{job, job_of, jobs_in}
use Rattle.mcs_verdict.specs.Misses.{missed, first_word, word_for, overdue_since, overdue, unended}
use Rattle.mcs_verdict.specs.Rounds.{first_wait, activated_in, activated_of, begun_of}
use Rattle.mcs_verdict.specs.Words.{leaves, held_of, firsts_of}
use Rattle.mcs_spin.specs.Spun.{spun_part, spun, is_spun, stays_as}
use Rattle.mcs_spin.specs.laws.Verdicts.{other_jobs}
use Rattle.mcs_spin.proofs.FirstWords.{no-deadline, firsts-spun, calls-spun, deadline-spun, core-spun}
use Rattle.mcs_spin.proofs.Parts.{part-other}
use Rattle.mcs_spin.proofs.LeftOut.{left, by-row, left-stays, left-out, past-left, word-left, first-left, Same, same}

-- a thread without a deadline has no finding
none-missed : (deadline : ℕ) (job : Job) → deadline ≡ 0 → missed deadline job ≡ None
none-missed deadline job e = rw e refl

none-unended : (system : System) (past : List Row) (horizon thread : ℕ) → (thread_part system thread).deadline ≡ 0 → unended system past horizon thread ≡ None
none-unended system past horizon thread e = grind (arith, nat_tests, e)

module _ (system : System) where
  -- a thread that does not only compute
  module _ (thread : ℕ) (other : is_spun system thread ≡ false) where
    activated-same : (moment : ℕ) (past : List Row) → Same system thread other past
        → activated_of (spun system) thread (left system past) moment ≡ activated_of system thread past moment
    activated-same moment past f = ap (activated_in (spun system) thread (left system past) moment) f.begun_is ∙ by (begun_of system thread past)
      where
        by : (begun : Option ℕ) → activated_in (spun system) thread (left system past) moment begun ≡ activated_in system thread past moment begun
        by None = refl
        by (Some begun) = cc (f.part_is, f.called_is, f.telling_is)

    job-same : (moment number : ℕ) (past : List Row) → job (spun system) (left system past) moment thread number ≡ job system past moment thread number
    job-same moment number past =
        let f = same system thread other past in
        cc (activated-same moment past f, f.begun_is, f.free_is, f.preemptions_is, f.telling_is)

    overdue-same : (horizon : ℕ) (past : List Row) → overdue (spun system) (left system past) horizon thread ≡ overdue system past horizon thread
    overdue-same horizon past =
        let f = same system thread other past in
        ap (overdue_since (spun system) (left system past) horizon thread) (activated-same horizon past f) ∙ by f (activated_of system thread past horizon)
      where
        by : Same system thread other past → (activated : Option ℕ)
            → overdue_since (spun system) (left system past) horizon thread activated ≡ overdue_since system past horizon thread activated
        by f None = refl
        by f (Some activated) = cc (f.part_is, f.free_is, f.rounds_is, f.telling_is)

    word-same : (past : List Row) → first_word (spun system) thread (left system past) ≡ first_word system thread past
    word-same past =
        let waits = first_wait (thread_part system thread) in
        ap (λ part. word_for (firsts_of (spun system)) (first_wait part) (left system past)) (part-other system thread other)
        ∙ ap (λ firsts. word_for firsts waits (left system past)) (firsts-spun system)
        ∙ first-left system (firsts_of system) waits past

    unended-same : (horizon : ℕ) (past : List Row) → unended (spun system) (left system past) horizon thread ≡ unended system past horizon thread
    unended-same horizon past =
        let f = same system thread other past in
        cc (overdue-same horizon past, word-same past, f.part_is, f.telling_is)

  -- what is found of a thread at the horizon
  pub unended-left : (thread horizon : ℕ) (past : List Row) → unended (spun system) (left system past) horizon thread ≡ unended system past horizon thread
  unended-left thread horizon past = by (is_spun system thread) refl
    where
      by : (b : Bool) → is_spun system thread ≡ b → unended (spun system) (left system past) horizon thread ≡ unended system past horizon thread
      by false e = unended-same thread e horizon past
      by true e =
          let none = no-deadline (thread_part system thread) e in
          none-unended (spun system) (left system past) horizon thread (deadline-spun system thread ∙ none)
          ∙ sym (none-unended system past horizon thread none)

  -- what is found of a word
  word-is : (note : ℕ) (past : List Row) → held_of (firsts_of (spun system)) note (left system past) ≡ held_of (firsts_of system) note past
  word-is note past =
      ap (λ firsts. held_of firsts note (left system past)) (firsts-spun system) ∙ word-left system (firsts_of system) note past

  pub untaken-left : (note horizon : ℕ) (past : List Row) → untaken (spun system) (left system past) horizon note ≡ untaken system past horizon note
  untaken-left note horizon past =
      ap (λ (held : Held). untaken_by horizon note held held.due (calls_each note held.word (map spun_part system.threads))) (word-is note past)
      ∙ ap (untaken_by horizon note (word note) (word note).due) (calls-spun note (word note).word system.threads)
    where
      word : ℕ → Held
      word note = held_of (firsts_of system) note past

  -- what is found at a row
  finding-stays : (past : List Row) (moment : ℕ) (what : What) → stays_as system what ≡ true
      → finding (spun system) (left system past) moment what ≡ finding system past moment what
  finding-stays past moment (row.Release x) e = refl
  finding-stays past moment (row.Run x) e = refl
  finding-stays past moment (row.Stop x cause charged until) e = refl
  finding-stays past moment (row.Signal x n badge) e = refl
  finding-stays past moment (row.Arrive n badge maker) e = refl
  finding-stays past moment (row.Wake x n word until) e = refl
  finding-stays past moment (row.Hold n word) e =
      ap (λ (held : Held). cond (leaves held.word word) (Some (Lost n word)) None) (word-is n past)
  finding-stays past moment (row.Got x n word) e = refl
  finding-stays past moment (row.Round x number response) e =
      ap (λ deadline. missed deadline (job (spun system) (left system past) moment x number)) (deadline-spun system x)
      ∙ ap (missed (thread_part system x).deadline) (job-same x (not-true (is_spun system x) e) moment number past)
  finding-stays past moment (row.Order context) e = refl
  finding-stays past moment (row.Interrupt source n badge) e = refl

  finding-out : (past : List Row) (moment : ℕ) (what : What) → stays_as system what ≡ false → finding system past moment what ≡ None
  finding-out past moment (row.Release x) e = absurd (true≢false e)
  finding-out past moment (row.Run x) e = absurd (true≢false e)
  finding-out past moment (row.Stop x cause charged until) e = absurd (true≢false e)
  finding-out past moment (row.Signal x n badge) e = absurd (true≢false e)
  finding-out past moment (row.Arrive n badge maker) e = absurd (true≢false e)
  finding-out past moment (row.Wake x n word until) e = absurd (true≢false e)
  finding-out past moment (row.Hold n word) e = absurd (true≢false e)
  finding-out past moment (row.Got x n word) e = absurd (true≢false e)
  finding-out past moment (row.Round x number response) e =
      none-missed (thread_part system x).deadline (job system past moment x number) (no-deadline (thread_part system x) (not-false (is_spun system x) e))
  finding-out past moment (row.Order context) e = absurd (true≢false e)
  finding-out past moment (row.Interrupt source n badge) e = absurd (true≢false e)

  found-left : (past rows : List Row) → found_in (spun system) (left system past) (left system rows) ≡ found_in system past rows
  found-left past [] = refl
  found-left past (r ∷ rows) =
      let later = found-left (r ∷ past) rows in
      let rest = found_in system (r ∷ past) rows in
      by-row system (λ some. found_in (spun system) (left system past) some ≡ found_in system past (r ∷ rows)) r rows
      (λ e. ap (λ some. found_at r.moment r.core (finding (spun system) (left system past) r.moment r.what) ++ found_in (spun system) some (left system rows))
      (sym (left-stays system r past e))
      ∙ ap (λ found. found_at r.moment r.core (finding (spun system) (left system past) r.moment r.what) ++ found) later
      ∙ ap (λ found. found_at r.moment r.core found ++ rest) (finding-stays past r.moment r.what e))
      (λ e. ap (λ some. found_in (spun system) some (left system rows)) (sym (left-out system r past e))
      ∙ later
      ∙ sym (ap (λ found. found_at r.moment r.core found ++ rest) (finding-out past r.moment r.what e)))

  -- what is found at the horizon
  ends-left : (past : List Row) (horizon n : ℕ) (parts : List ThreadPart)
      → found_at_end (spun system) (left system past) horizon n (map spun_part parts) ≡ found_at_end system past horizon n parts
  ends-left past horizon n [] = refl
  ends-left past horizon n (part ∷ parts) =
      cc (core-spun system part, unended-left n horizon past, ends-left past horizon (suc n) parts)

  words-left : (past : List Row) (horizon n : ℕ) (parts : List NotePart)
      → untaken_at_end (spun system) (left system past) horizon n parts ≡ untaken_at_end system past horizon n parts
  words-left past horizon n [] = refl
  words-left past horizon n (part ∷ parts) = cc (untaken-left n horizon past, words-left past horizon (suc n) parts)

  pub findings-left : (horizon : ℕ) (rows : List Row) → findings (spun system) horizon (left system rows) ≡ findings system horizon rows
  findings-left horizon rows =
      let past = past_of [] rows in
      cc (found-left [] rows, past-left system [] rows, ends-left past horizon 0 system.threads, words-left past horizon 0 system.notes)

  -- the jobs of other threads
  job-stays : (past : List Row) (moment : ℕ) (what : What) → stays_as system what ≡ true
      → other_jobs system (option_to_list (job_of system past moment what)) ≡ option_to_list (job_of (spun system) (left system past) moment what)
  job-stays past moment (row.Release x) e = refl
  job-stays past moment (row.Run x) e = refl
  job-stays past moment (row.Stop x cause charged until) e = refl
  job-stays past moment (row.Signal x n badge) e = refl
  job-stays past moment (row.Arrive n badge maker) e = refl
  job-stays past moment (row.Wake x n word until) e = refl
  job-stays past moment (row.Hold n word) e = refl
  job-stays past moment (row.Got x n word) e = refl
  job-stays past moment (row.Round x number response) e =
      sym
      (ap (λ n. option_to_list (cond (nat_lt x n) (Some (job (spun system) (left system past) moment x number)) None)) (length-map system.threads spun_part)
      ∙ ap (λ job. option_to_list (cond (nat_lt x (length system.threads)) (Some job) None)) (job-same x (not-true (is_spun system x) e) moment number past)
      ∙ by (nat_lt x (length system.threads)))
    where
      now : Job
      now = job system past moment x number

      by : (known : Bool) → option_to_list (cond known (Some now) None) ≡ other_jobs system (option_to_list (cond known (Some now) None))
      by true = sym (ap (λ stays. cond stays (now ∷ []) []) e)
      by false = refl
  job-stays past moment (row.Order context) e = refl
  job-stays past moment (row.Interrupt source n badge) e = refl

  job-out : (past : List Row) (moment : ℕ) (what : What) → stays_as system what ≡ false
      → other_jobs system (option_to_list (job_of system past moment what)) ≡ []
  job-out past moment (row.Release x) e = refl
  job-out past moment (row.Run x) e = refl
  job-out past moment (row.Stop x cause charged until) e = refl
  job-out past moment (row.Signal x n badge) e = refl
  job-out past moment (row.Arrive n badge maker) e = refl
  job-out past moment (row.Wake x n word until) e = refl
  job-out past moment (row.Hold n word) e = refl
  job-out past moment (row.Got x n word) e = refl
  job-out past moment (row.Round x number response) e = by (nat_lt x (length system.threads))
    where
      now : Job
      now = job system past moment x number

      by : (known : Bool) → other_jobs system (option_to_list (cond known (Some now) None)) ≡ []
      by true = ap (λ stays. cond stays (now ∷ []) []) e
      by false = refl
  job-out past moment (row.Order context) e = refl
  job-out past moment (row.Interrupt source n badge) e = refl

  pub jobs-left : (past rows : List Row) → other_jobs system (jobs_in system past rows) ≡ jobs_in (spun system) (left system past) (left system rows)
  jobs-left past [] = refl
  jobs-left past (r ∷ rows) =
      let now = option_to_list (job_of system past r.moment r.what) in
      let here = option_to_list (job_of (spun system) (left system past) r.moment r.what) in
      let rest = jobs_in system (r ∷ past) rows in
      let parts = filter-append (λ (job : Job). not (is_spun system job.thread)) now rest in
      let later = jobs-left (r ∷ past) rows in
      by-row system (λ some. other_jobs system (jobs_in system past (r ∷ rows)) ≡ jobs_in (spun system) (left system past) some) r rows
      (λ e. parts
      ∙ ap (λ jobs. jobs ++ other_jobs system rest) (job-stays past r.moment r.what e)
      ∙ ap (λ jobs. here ++ jobs) later
      ∙ ap (λ some. here ++ jobs_in (spun system) some (left system rows)) (left-stays system r past e))
      (λ e. parts
      ∙ ap (λ jobs. jobs ++ other_jobs system rest) (job-out past r.moment r.what e)
      ∙ later
      ∙ ap (λ some. jobs_in (spun system) some (left system rows)) (left-out system r past e))
