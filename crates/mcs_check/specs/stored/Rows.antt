-- The lines and counts of rows as they come.
use Rattle.std.specs.Prelude.{ℕ, Bool, if◌then◌else◌, List, [], ◌∷◌, ◌++◌, flat_map, Option, Some, None}
use Rattle.mcs_ticks.specs.declared.row.Row.{Row}
use Rattle.mcs_system.specs.System.{System}
use Rattle.mcs_verdict.specs.declared.finding.Finding.{Finding}
use Rattle.mcs_verdict.specs.declared.finding.Found.{Found}
use Rattle.mcs_verdict.specs.declared.job.Job.{Job}
use Rattle.mcs_verdict.specs.Findings.{finding}
use Rattle.mcs_verdict.specs.Jobs.{job_of}
use Rattle.mcs_verdict.specs.Words.{merges}
use Rattle.mcs_table.specs.Table.{table_of}
use Rattle.mcs_chain.specs.Answering.{answers_at}
use Rattle.mcs_chain.specs.Figures.{all_figures, tallies_of}
use Rattle.mcs_chain.specs.Watch.{all_due, watch_of}
use Rattle.mcs_chain.specs.declared.answer.Answer.{Answer}
use Rattle.mcs_chain.specs.declared.finding.Found.{Found as ChainFound}
use Rattle.mcs_check_words.specs.declared.asked.Format.{Format}
use Rattle.mcs_check_words.specs.declared.asked.Show.{Show}
use Rattle.mcs_check_words.specs.declared.asked.Show.TheVariants as show
use Rattle.mcs_check_lines.specs.declared.counts.Counts.{Counts}
use Rattle.mcs_check_lines.specs.declared.unjudged.Unjudged.{Unjudged}
use Rattle.mcs_check_lines.specs.Unjudged.{unjudged_line}
use Rattle.mcs_check.specs.declared.seen.Tables.{Tables}
use Rattle.mcs_check_lines.specs.declared.shown.Shown.{Shown}
use Rattle.mcs_check_lines.specs.declared.shown.Shown.TheVariants as shown
use Rattle.mcs_ticks.specs.Capped.{one_more}
use Rattle.mcs_check_lines.specs.Answers.{answer_lines}
use Rattle.mcs_check_lines.specs.Chains.{chain_found_lines, chain_lines}
use Rattle.mcs_check_lines.specs.Counts.{taken, told_of}
use Rattle.mcs_check_lines.specs.Formats.{head_text, hint_line}
use Rattle.mcs_check_lines.specs.Shown.{shown_text}
use Rattle.mcs_check_lines.specs.Figures.{table_lines}
use Rattle.mcs_check_lines.specs.Told.{found_lines}
use Rattle.mcs_hints.specs.Hints.{hints_of}
use Rattle.mcs_check_run.specs.Lines.{lines_of}

-- a finding, as it is shown
abbrev pub shown_found : ℕ → ℕ → Option Finding → Option Shown
shown_found moment core None = None
shown_found moment core (Some found) = Some (shown.Found (record { moment = moment; core = core; finding = found }))

-- a job, as it is shown
abbrev pub shown_job : Option Job → Option Shown
shown_job None = None
shown_job (Some job) = Some (shown.Job job)

-- the line, if there is one
abbrev pub told_line : Format → System → Option Shown → List ℕ
told_line how system None = []
told_line how system (Some entry) = shown_text how system entry

-- the lines after the last row: the slow answers that are due, the findings at the horizon, the
-- chains without an answer, the unjudged threads, and the hints
abbrev pub ends_lines : Format → System → List Bool → List ChainFound → List Found → List ChainFound → List Unjudged → List ℕ
ends_lines how system allowed due found unanswered unjudged =
    chain_found_lines how system due ++ found_lines how system allowed found ++ chain_found_lines how system unanswered
    ++ flat_map (unjudged_line how system) unjudged ++ flat_map (hint_line how system) (hints_of system)

abbrev pub rest_lines : Format → Show → System → List Bool → List ChainFound → List Found → List ChainFound → List Unjudged → List ℕ
rest_lines how show.Findings system allowed due found unanswered unjudged = ends_lines how system allowed due found unanswered unjudged
rest_lines how show.Jobs system allowed due found unanswered unjudged = []
rest_lines how show.Table system allowed due found unanswered unjudged = []
rest_lines how show.Both system allowed due found unanswered unjudged = ends_lines how system allowed due found unanswered unjudged

-- the tables of these rows, if figures are asked for
abbrev pub tables_of : System → ℕ → List Row → Tables
tables_of system horizon past = record { threads = table_of system horizon past; chains = tallies_of horizon system past }

abbrev pub if_figures : Show → Tables → Option Tables
if_figures show.Findings tables = None
if_figures show.Jobs tables = None
if_figures show.Table tables = Some tables
if_figures show.Both tables = Some tables

abbrev pub kept_table : Show → System → ℕ → List Row → Option Tables
kept_table asked system horizon past = if_figures asked (tables_of system horizon past)

-- the lines of the figures of threads, contexts and chains
abbrev pub figures_of_all : Format → System → ℕ → List Row → List ℕ
figures_of_all how system horizon past = table_lines how system horizon past ++ chain_lines how system 0 (all_figures horizon system past)

-- these lines, if figures are asked for
abbrev pub tabled_lines : Format → Show → System → ℕ → List Row → List ℕ
tabled_lines how show.Findings system horizon past = []
tabled_lines how show.Jobs system horizon past = []
tabled_lines how show.Table system horizon past = figures_of_all how system horizon past
tabled_lines how show.Both system horizon past = figures_of_all how system horizon past

-- the lines of slow answers, if findings are shown
abbrev pub due_lines : Format → System → Show → List ChainFound → List ℕ
due_lines how system show.Findings due = chain_found_lines how system due
due_lines how system show.Jobs due = []
due_lines how system show.Table due = []
due_lines how system show.Both due = chain_found_lines how system due

-- the lines of answers, if jobs are shown
abbrev pub answered_lines : Format → System → Show → List Answer → List ℕ
answered_lines how system show.Findings answers = []
answered_lines how system show.Jobs answers = answer_lines how system answers
answered_lines how system show.Table answers = []
answered_lines how system show.Both answers = []

module _ (system : System) (allowed : List Bool) where
  -- what is shown of a row that comes after these
  abbrev pub shown_at : Show → List Row → Row → Option Shown
  shown_at show.Findings past r = shown_found r.moment r.core (told_of allowed (finding system past r.moment r.what))
  shown_at show.Jobs past r = shown_job (job_of system past r.moment r.what)
  shown_at show.Table past r = None
  shown_at show.Both past r = shown_found r.moment r.core (told_of allowed (finding system past r.moment r.what))

  abbrev pub told_at : Format → Show → List Row → Row → List ℕ
  told_at how asked past r = told_line how system (shown_at asked past r)

  -- and then the row's answers, if jobs are shown
  abbrev pub told_with : Format → Show → List Row → Row → List ℕ
  told_with how show.Findings past r = told_at how show.Findings past r
  told_with how show.Jobs past r = told_at how show.Jobs past r ++ answer_lines how system (answers_at system past r 0 system.chains)
  told_with how show.Table past r = told_at how show.Table past r
  told_with how show.Both past r = told_at how show.Both past r

  abbrev pub counted_at : List Row → Row → Counts → Counts
  counted_at past r counts =
      taken allowed (finding system past r.moment r.what)
      (if merges system past r.what then record counts { merged = one_more counts.merged } else counts)

  -- the lines of these rows, each by the rows before it
  abbrev pub lines_in : Format → Show → List Row → List Row → List ℕ
  lines_in how asked past rows = lines_of (told_at how asked) past rows

  -- the lines of the slow answers of earlier rows that are due at a row, and then those of the row
  unfoldable pub row_lines : Format → Show → List Row → Row → List ℕ
  row_lines how asked past r =
      due_lines how system asked (all_due (Some r.moment) 0 (watch_of system past).each) ++ told_with how asked past r

  -- the first line, and the lines of all rows
  abbrev pub rows_text : Format → Show → List Row → List ℕ
  rows_text how asked rows = head_text how asked system ++ lines_of (row_lines how asked) [] rows

  abbrev pub counts_in : List Row → List Row → Counts → Counts
  counts_in past [] counts = counts
  counts_in past (r ∷ rows) counts = counts_in (r ∷ past) rows (counted_at past r counts)

-- the counts with all findings of a list
abbrev pub counts_found : List Bool → List Found → Counts → Counts
counts_found allowed [] counts = counts
counts_found allowed (f ∷ found) counts = counts_found allowed found (taken allowed (Some f.finding) counts)
