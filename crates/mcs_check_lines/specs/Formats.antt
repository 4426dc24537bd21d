-- The lines of what is shown, in each format.
use Rattle.std.specs.Prelude.{Bool, true, false, List, [], ◌∷◌, ◌++◌, codes, map}
use Rattle.mcs_fields.specs.Fields.{Text, empty, names_text, object_text, row_text}
use Rattle.mcs_system.specs.declared.part.ChainPart.{ChainPart}
use Rattle.mcs_system.specs.System.{System}
use Rattle.mcs_hints.specs.declared.hint.Hint.{Hint}
use Rattle.mcs_verdict.specs.declared.finding.Found.{Found}
use Rattle.mcs_verdict.specs.declared.job.Job.{Job}
use Rattle.mcs_check_words.specs.declared.asked.Format.{Format}
use Rattle.mcs_check_words.specs.declared.asked.Format.TheVariants as format
use Rattle.mcs_check_words.specs.declared.asked.Show.{Show}
use Rattle.mcs_check_words.specs.declared.asked.Show.TheVariants as show
use Rattle.mcs_check_lines.specs.declared.checked.Checked.{Checked}
use Rattle.mcs_check_lines.specs.Fields.{Fields, checked_fields, found_fields, found_members, hint_fields, job_fields}
use Rattle.mcs_check_lines.specs.Lines.{checked_text, found_text, hint_text, job_text}

-- words as they are, a row of values, or an object of them
abbrev pub written : Format → Text → Fields → Text
written format.Text words fields = words
written format.Csv words fields = row_text (map (λ f. f.1) fields)
written format.Json words fields = object_text fields

-- only if the file has a chain
abbrev pub if_chains : {A : Type 0} → List ChainPart → List A → List A
if_chains [] more = []
if_chains (chain ∷ chains) more = more

-- the columns that findings and jobs of a file with a chain have behind the others
abbrev pub chain_columns : List Text
chain_columns = codes "chain" ∷ codes "latency" ∷ codes "deadline" ∷ codes "origin" ∷ []

-- what another line has in such columns: nothing
abbrev pub empty_in : List Text → Fields
empty_in columns = map (λ column. (column, empty)) columns

abbrev pub no_columns : Fields
no_columns = empty_in chain_columns

-- a row with the columns of chains, which are empty
abbrev pub found_row : System → Found → Text
found_row system found = row_text (map (λ f. f.1) (found_fields system found ++ if_chains system.chains no_columns))

abbrev pub found_line : Format → System → Found → Text
found_line format.Text system found = found_text system found
found_line format.Csv system found = found_row system found
found_line format.Json system found = object_text (found_members system found)

abbrev pub job_line : Format → System → Job → Text
job_line how system job = written how (job_text system job) (job_fields system job ++ if_chains system.chains no_columns)

-- the same, but nothing as CSV, which has rows of one kind only
abbrev pub unless_rows : Format → Text → Fields → Text
unless_rows format.Csv words fields = []
unless_rows how words fields = written how words fields

abbrev pub hint_line : Format → System → Hint → Text
hint_line how system hint = unless_rows how (hint_text system hint) (hint_fields system hint)

abbrev pub counts_line : Format → Checked → Text
counts_line how checked = unless_rows how (checked_text checked) (checked_fields checked)

-- the column names of such rows
abbrev pub column_names : Show → List Text
column_names show.Findings =
    codes "moment" ∷ codes "core" ∷ codes "kind" ∷ codes "thread" ∷ codes "note" ∷ codes "word" ∷ codes "number" ∷ codes "response"
    ∷ codes "age" ∷ codes "deadline" ∷ codes "activated" ∷ codes "set" ∷ codes "queued" ∷ codes "ready" ∷ codes "running"
    ∷ codes "throttled" ∷ codes "blocked" ∷ codes "server" ∷ []
column_names show.Jobs =
    codes "moment" ∷ codes "core" ∷ codes "kind" ∷ codes "thread" ∷ codes "number" ∷ codes "activated" ∷ codes "begun" ∷ codes "response"
    ∷ codes "queued" ∷ codes "preemptions" ∷ codes "ready" ∷ codes "running" ∷ codes "throttled" ∷ codes "blocked" ∷ codes "server" ∷ []
column_names show.Table =
    codes "kind" ∷ codes "thread" ∷ codes "core" ∷ codes "priority" ∷ codes "budget" ∷ codes "period" ∷ codes "granted" ∷ codes "used"
    ∷ codes "rounds" ∷ codes "greatest" ∷ codes "p50" ∷ codes "p90" ∷ codes "p99" ∷ codes "deadline" ∷ codes "margin" ∷ codes "missed"
    ∷ codes "late" ∷ codes "lost" ∷ codes "merged" ∷ codes "ticks_pending" ∷ codes "ticks_ready" ∷ codes "ticks_running"
    ∷ codes "ticks_throttled" ∷ codes "ticks_blocked" ∷ codes "ticks_server" ∷ codes "ticks_done" ∷ []
column_names show.Both = []

-- findings and figures have different values, which CSV cannot show together
abbrev pub is_mixed : Format → Show → Bool
is_mixed format.Csv show.Both = true
is_mixed how asked = false

-- those that the table of a file with a chain has behind the others
abbrev pub figure_columns : List Text
figure_columns =
    codes "chain" ∷ codes "interrupts" ∷ codes "answers" ∷ codes "least" ∷ codes "greatest" ∷ codes "total" ∷ codes "p50"
    ∷ codes "p90" ∷ codes "p99" ∷ codes "deadline" ∷ codes "margin" ∷ []

-- what the line of a thread's figures has there: nothing
abbrev pub no_figures : Fields
no_figures = empty_in figure_columns

-- the columns that a file with a chain has behind the others
abbrev pub more_columns : Show → List Text
more_columns show.Findings = chain_columns
more_columns show.Jobs = chain_columns
more_columns show.Table = figure_columns
more_columns show.Both = []

-- the first line of CSV, and its columns: a file with a chain has more
abbrev pub columns : Show → List ChainPart → List Text
columns asked chains = column_names asked ++ if_chains chains (more_columns asked)

abbrev pub head_text : Format → Show → System → Text
head_text format.Csv asked system = names_text (columns asked system.chains)
head_text _ asked system = []
