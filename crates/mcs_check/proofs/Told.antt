-- The lines of what is shown, put together as the rows go by, are those of all that is found, or of all rounds that ended.
use Rattle.std.proofs.Common.{◌≡◌, ◌∙◌, ◌++◌, ◌∷◌, [], ℕ, Bool, true, false, List, Option, Some, None, IfSome, length, refl, ap, ap₂, sym, append-nil}
use Rattle.std.specs.Prelude.{option_to_list}
use Rattle.std.proofs.lemmas.List.Concat.{flat_map-append}
use Rattle.mcs_ticks.specs.declared.row.Row.{Row}
use Rattle.mcs_system.specs.System.{System}
use Rattle.mcs_verdict.specs.declared.finding.Finding.{Finding}
use Rattle.mcs_verdict.specs.declared.job.Job.{Job}
use Rattle.mcs_verdict.specs.Findings.{found_at}
use Rattle.mcs_verdict.specs.Jobs.{job_of, jobs_in}
use Rattle.mcs_check_words.specs.declared.asked.Format.{Format}
use Rattle.mcs_check_words.specs.declared.asked.Show.{Show}
use Rattle.mcs_check_words.specs.declared.asked.Show.TheVariants as show
use Rattle.mcs_chain.specs.Answering.{answers_at}
use Rattle.mcs_chain.specs.Watch.{all_due, all_judged_many, all_slow_many, watch_of as chains_of}
use Rattle.mcs_chain.specs.Found.{all_unanswered}
use Rattle.mcs_check.specs.declared.seen.Tables.{Tables}
use Rattle.mcs_table.proofs.Ended.{length-accounts}
use Rattle.mcs_check_lines.specs.Counts.{is_allowed, told_of}
use Rattle.mcs_check_lines.specs.Formats.{job_line}
use Rattle.mcs_check_lines.specs.Answers.{answer_lines}
use Rattle.mcs_check_lines.specs.Told.{ended_lines, found_lines, job_lines}
use Rattle.mcs_check.specs.stored.Rows.{answered_lines, due_lines, kept_table, lines_in, row_lines, shown_found, shown_job, told_at, told_line, told_with}
use Rattle.mcs_check_run.specs.Lines.{lines_of}

module _ (how : Format) (system : System) (allowed : List Bool) where
  one-line : (moment core : ℕ) (f : Finding) (b : Bool) → is_allowed allowed f ≡ b
      → found_lines how system allowed (found_at moment core (Some f)) ≡ told_line how system (shown_found moment core (told_of allowed (Some f)))
  one-line moment core f true e = rw e refl
  one-line moment core f false e = rw e (append-nil _)

  pub line-is : (moment core : ℕ) (f : Option Finding) → found_lines how system allowed (found_at moment core f) ≡ told_line how system (shown_found moment core (told_of allowed f))
  line-is moment core None = refl
  line-is moment core (Some f) = one-line moment core f (is_allowed allowed f) refl

  -- with figures alone, rows have no lines
  pub no-rows : (past rows : List Row) → lines_of (row_lines system allowed how show.Table) past rows ≡ []
  unfolding row_lines
  no-rows past [] = refl
  no-rows past (r ∷ rows) = no-rows (r ∷ past) rows

  pub both-rows : (past rows : List Row) → lines_of (row_lines system allowed how show.Both) past rows ≡ lines_of (row_lines system allowed how show.Findings) past rows
  unfolding row_lines
  both-rows past [] = refl
  both-rows past (r ∷ rows) = ap (λ l. row_lines system allowed how show.Findings past r ++ l) (both-rows (r ∷ past) rows)

  -- a row's line, and behind it its answers
  pub told-is : (asked : Show) (past : List Row) (r : Row)
      → told_at system allowed how asked past r ++ answered_lines how system asked (answers_at system past r 0 system.chains) ≡ told_with system allowed how asked past r
  told-is show.Findings past r = append-nil _
  told-is show.Jobs past r = refl
  told-is show.Table past r = append-nil _
  told-is show.Both past r = append-nil _

  pub row-is : (asked : Show) (past : List Row) (r : Row)
      → due_lines how system asked (all_due (Some r.moment) 0 (chains_of system past).each) ++ told_with system allowed how asked past r ≡ row_lines system allowed how asked past r
  unfolding row_lines
  row-is asked past r = refl

  -- and nothing has if there is no chain
  due-none : (asked : Show) (before : Option ℕ) (past : List Row) → system.chains ≡ [] → due_lines how system asked (all_due before 0 (chains_of system past).each) ≡ []
  due-none show.Findings before past none = rw none refl
  due-none show.Jobs before past none = refl
  due-none show.Table before past none = refl
  due-none show.Both before past none = rw none refl

  told-alone : (asked : Show) (past : List Row) (r : Row) → system.chains ≡ [] → told_with system allowed how asked past r ≡ told_at system allowed how asked past r
  told-alone show.Findings past r none = refl
  told-alone show.Jobs past r none =
      ap (λ chains. told_at system allowed how show.Jobs past r ++ answer_lines how system (answers_at system past r 0 chains)) none ∙ append-nil _
  told-alone show.Table past r none = refl
  told-alone show.Both past r none = refl

  pub alone-rows : (asked : Show) (past rows : List Row) → system.chains ≡ [] → lines_of (row_lines system allowed how asked) past rows ≡ lines_in system allowed how asked past rows
  unfolding row_lines
  alone-rows asked past [] none = refl
  alone-rows asked past (r ∷ rows) none =
      ap (λ l. (l ++ told_with system allowed how asked past r) ++ lines_of (row_lines system allowed how asked) (r ∷ past) rows) (due-none asked (Some r.moment) past none)
      ∙ ap (λ l. l ++ lines_of (row_lines system allowed how asked) (r ∷ past) rows) (told-alone asked past r none)
      ∙ ap (λ l. told_at system allowed how asked past r ++ l) (alone-rows asked (r ∷ past) rows none)

  one-job : (j : Option Job) → job_lines how system (option_to_list j) ≡ told_line how system (shown_job j)
  one-job None = refl
  one-job (Some job) = append-nil (job_line how system job)

  pub jobs-are : (past rows : List Row) → lines_of (row_lines system allowed how show.Jobs) past rows ≡ ended_lines how system past rows
  unfolding row_lines
  jobs-are past [] = refl
  jobs-are past (r ∷ rows) =
      let answers = answer_lines how system (answers_at system past r 0 system.chains) in
      ap₂ (λ own rest. own ++ answers ++ rest) (sym (one-job (job_of system past r.moment r.what))) (jobs-are (r ∷ past) rows)

  -- in a file without a chain these are the lines of the jobs alone
  pub jobs-alone : (past rows : List Row) → system.chains ≡ [] → ended_lines how system past rows ≡ job_lines how system (jobs_in system past rows)
  jobs-alone past [] none = refl
  jobs-alone past (r ∷ rows) none =
      let own = option_to_list (job_of system past r.moment r.what) in
      let rest = jobs_in system (r ∷ past) rows in
      ap (λ chains. job_lines how system own ++ answer_lines how system (answers_at system past r 0 chains) ++ ended_lines how system (r ∷ past) rows) none
      ∙ ap (λ l. l ++ ended_lines how system (r ∷ past) rows) (append-nil _)
      ∙ ap (λ l. job_lines how system own ++ l) (jobs-alone (r ∷ past) rows none)
      ∙ sym (flat_map-append (job_line how system) own rest)

module _ (how : Format) (system : System) (horizon : ℕ) (past : List Row) where
  -- one account for each thread is kept
  pub kept-long : (asked : Show) → IfSome (kept_table asked system horizon past) (λ (table : Tables). length table.threads.accounts ≡ length system.threads)
  kept-long show.Findings = tt
  kept-long show.Jobs = tt
  kept-long show.Table = length-accounts system horizon 0 system.threads past
  kept-long show.Both = length-accounts system horizon 0 system.threads past

-- if there is no chain, nothing is found of chains
module _ (system : System) (past : List Row) where
  pub no-due : system.chains ≡ [] → all_due None 0 (chains_of system past).each ≡ []
  no-due none = rw none refl

  pub no-slow : system.chains ≡ [] → all_slow_many (chains_of system past).each ≡ 0
  no-slow none = rw none refl

  pub no-answers : system.chains ≡ [] → all_judged_many (chains_of system past).each ≡ 0
  no-answers none = rw none refl

  pub no-unanswered : (horizon : ℕ) → system.chains ≡ [] → all_unanswered system past horizon 0 system.chains ≡ []
  no-unanswered horizon none = ap (all_unanswered system past horizon 0) none
