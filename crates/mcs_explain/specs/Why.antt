-- The explanation of why a round took so long, or of the way of an answer.
use Rattle.std.specs.Prelude.{ℕ, Bool, true, false, ◌==◌, ◌||◌, not, List, [], ◌++◌, filter, flat_map, vec_len}
use Rattle.mcs_ticks.specs.declared.row.Row.{Row}
use Rattle.mcs_fields.specs.Fields.{Text}
use Rattle.mcs_system.specs.System.{System}
use Rattle.mcs_core.specs.Clock.{schedule}
use Rattle.mcs_verdict.specs.Findings.{past_of}
use Rattle.mcs_chain.specs.declared.answer.Answer.{Answer}
use Rattle.mcs_why.specs.declared.span.Span.{Span}
use Rattle.mcs_why.specs.declared.span.Sought.{Sought}
use Rattle.mcs_why.specs.declared.span.Sought.TheVariants.{There, Missing}
use Rattle.mcs_why.specs.Running.{is_within}
use Rattle.mcs_why.specs.Spans.{sought}
use Rattle.mcs_way.specs.declared.leg.Leg.{Leg}
use Rattle.mcs_way.specs.declared.sought.Sought.{Sought as AnswerSought}
use Rattle.mcs_way.specs.declared.sought.Sought.TheVariants as way
use Rattle.mcs_way.specs.Sought.{sought as answer_sought}
use Rattle.mcs_way.specs.Trail.{way_of}
use Rattle.mcs_check_words.specs.declared.asked.Format.{Format}
use Rattle.mcs_check_words.specs.declared.asked.Format.TheVariants as format
use Rattle.mcs_check_words.specs.declared.asked.Options.{Options}
use Rattle.mcs_explain.specs.declared.asked.Asked.{Asked}
use Rattle.mcs_explain.specs.declared.asked.Asked.TheVariants as asked
use Rattle.mcs_explain.specs.declared.found.Found.{Found}
use Rattle.mcs_explain.specs.declared.found.Found.TheVariants as found
use Rattle.mcs_explain.specs.Asked.{asked_of, round_number}
use Rattle.mcs_check_lines.specs.Answers.{answer_line}
use Rattle.mcs_way_lines.specs.Lines.{way_objects, way_text}
use Rattle.mcs_why_lines.specs.Account.{account_lines}
use Rattle.mcs_why_lines.specs.Rows.{row_line}

-- the rows of its core from the span's beginning to its end
abbrev pub rows_lines : Format → System → Span → List Row → Text
rows_lines how system span rows = flat_map (row_line how system) (filter (is_within span.core span.from span.to) rows)

-- the rows, followed by the account
abbrev pub round_text : Format → System → Span → List Row → Text
round_text how system span rows = rows_lines how system span rows ++ account_lines how system span (past_of [] rows)

-- the legs of a way, and their sums; rows of CSV are refused before
abbrev pub legs_text : Format → System → List Leg → Text
legs_text format.Json system way = way_objects system way
legs_text _ system way = way_text system way

-- an answer, followed by its way by the rows
abbrev pub answer_text : Format → System → Answer → List Row → Text
answer_text how system answer rows = answer_line how system answer ++ legs_text how system (way_of system answer (past_of [] rows))

-- what there is of a round, and of an answer
abbrev pub round_found : Sought → Found
round_found (There span) = found.Round span
round_found (Missing rounds) = found.NoRound rounds

abbrev pub answer_found : AnswerSought → Found
answer_found (way.There answer) = found.Answer answer
answer_found (way.Missing answers) = found.NoAnswer answers

-- the round or the answer with this number, by the rows up to the horizon, the latest first
abbrev pub found_by : System → ℕ → ℕ → List Row → Asked → Found
found_by system horizon number past (asked.Round thread) = round_found (sought system horizon past thread number)
found_by system horizon number past (asked.Answer chain) = answer_found (answer_sought system chain number past)
found_by system horizon number past asked.Nobody = found.Nobody

-- the round or the answer with this number, of the thread or the chain with this name, in the
-- schedule of the one clock
abbrev pub found_of : System → ℕ → Text × Text → Found
found_of system horizon question =
    found_by system horizon (round_number question.1) (past_of [] (schedule system horizon)) (asked_of system question.0)

abbrev pub is_there : Found → Bool
is_there (found.Round span) = true
is_there (found.Answer answer) = true
is_there _ = false

-- the explanation; no byte if there is no such round or answer
abbrev pub found_text : Format → System → ℕ → Found → Text
found_text how system horizon (found.Round span) = round_text how system span (schedule system horizon)
found_text how system horizon (found.Answer answer) = answer_text how system answer (schedule system horizon)
found_text how system horizon _ = []

abbrev pub why_text : Format → System → ℕ → Text × Text → Text
why_text how system horizon question = found_text how system horizon (found_of system horizon question)

abbrev pub is_csv : Format → Bool
is_csv format.Csv = true
is_csv _ = false

-- an option that has nothing to do with a round is given too
abbrev pub is_mixed : Options → Bool
is_mixed options = options.show_given || options.strict || not (vec_len options.allowed == 0) || is_csv options.format
