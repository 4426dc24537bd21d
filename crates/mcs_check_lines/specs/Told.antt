-- The findings that are reported, and the count of each kind.
use Rattle.std.specs.Prelude.{ℕ, ◌+◌, Bool, true, false, not, if◌then◌else◌, List, [], ◌∷◌, ◌++◌, count_by, filter, flat_map, option_to_list}
use Rattle.mcs_ticks.specs.Capped.{capped}
use Rattle.mcs_ticks.specs.declared.row.Row.{Row}
use Rattle.mcs_system.specs.System.{System}
use Rattle.mcs_verdict.specs.declared.finding.Finding.{Finding}
use Rattle.mcs_verdict.specs.declared.finding.Finding.TheVariants.{Miss, Overdue, Untaken, Lost, Never}
use Rattle.mcs_verdict.specs.declared.finding.Found.{Found}
use Rattle.mcs_verdict.specs.declared.job.Job.{Job}
use Rattle.mcs_verdict.specs.Jobs.{job_of}
use Rattle.mcs_verdict.specs.Words.{merges}
use Rattle.mcs_chain.specs.Answering.{answers_at}
use Rattle.mcs_check_words.specs.declared.asked.Format.{Format}
use Rattle.mcs_check_lines.specs.declared.counts.Counts.{Counts}
use Rattle.mcs_check_lines.specs.Answers.{answer_lines}
use Rattle.mcs_check_lines.specs.Counts.{is_allowed}
use Rattle.mcs_check_lines.specs.Formats.{found_line, job_line}

-- all findings but allowed lost signals
abbrev pub told : List Bool → List Found → List Found
told allowed found = filter (λ f. not (is_allowed allowed f.finding)) found

-- their lines
abbrev pub found_lines : Format → System → List Bool → List Found → List ℕ
found_lines how system allowed found = flat_map (found_line how system) (told allowed found)

-- the lines of jobs
abbrev pub job_lines : Format → System → List Job → List ℕ
job_lines how system jobs = flat_map (job_line how system) jobs

-- the lines of the rounds that these rows end, each by the rows before it: the job, and behind it the
-- answers of the row, chain by chain
abbrev pub ended_lines : Format → System → List Row → List Row → List ℕ
ended_lines how system past [] = []
ended_lines how system past (r ∷ rows) =
    job_lines how system (option_to_list (job_of system past r.moment r.what))
    ++ answer_lines how system (answers_at system past r 0 system.chains)
    ++ ended_lines how system (r ∷ past) rows

-- the kind of a finding
abbrev pub is_miss : Finding → Bool
is_miss (Miss thread number response deadline activated queued stood) = true
is_miss _ = false

abbrev pub is_overdue : Finding → Bool
is_overdue (Overdue thread number age deadline activated queued stood) = true
is_overdue _ = false

abbrev pub is_untaken : Finding → Bool
is_untaken (Untaken note word age deadline set) = true
is_untaken _ = false

abbrev pub is_never : Finding → Bool
is_never (Never thread deadline) = true
is_never _ = false

abbrev pub is_lost : Finding → Bool
is_lost (Lost note word) = true
is_lost _ = false

-- n, and the findings of a list that are of a kind
abbrev pub more : (Finding → Bool) → List Found → ℕ → ℕ
more is found n = capped (n + count_by (λ f. is f.finding) found)

-- how many signals these rows merge
abbrev pub merged_in : System → List Row → List Row → ℕ
merged_in system past [] = 0
merged_in system past (r ∷ rows) = (if merges system past r.what then 1 else 0) + merged_in system (r ∷ past) rows

-- the counts with all of these added
abbrev pub counts_with : List Bool → List Found → ℕ → ℕ → Counts → Counts
counts_with allowed found merged hints counts = record {
  missed = more is_miss (told allowed found) counts.missed;
  overdue = more is_overdue (told allowed found) counts.overdue;
  untaken = more is_untaken (told allowed found) counts.untaken;
  lost = more is_lost (told allowed found) counts.lost;
  never = more is_never (told allowed found) counts.never;
  merged = capped (counts.merged + merged);
  allowed = more (is_allowed allowed) found counts.allowed;
  hints = capped (counts.hints + hints);
}
