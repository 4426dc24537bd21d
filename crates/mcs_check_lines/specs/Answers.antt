-- The lines of answers, behind the jobs that gave them.
use Rattle.std.specs.Prelude.{ℕ, ◌==◌, if◌then◌else◌, List, [], ◌∷◌, ◌++◌, codes, decimal, flat_map}
use Rattle.mcs_fields.specs.Fields.{Text, amount, empty, name}
use Rattle.mcs_system.specs.System.{System}
use Rattle.mcs_text.specs.Text.{counted, line, thread_name}
use Rattle.mcs_chain.specs.declared.answer.Answer.{Answer}
use Rattle.mcs_check_words.specs.declared.asked.Format.{Format}
use Rattle.mcs_check_lines.specs.Names.{chain_name}
use Rattle.mcs_check_lines.specs.Fields.{Fields}
use Rattle.mcs_check_lines.specs.Figures.{deadline_known}
use Rattle.mcs_check_lines.specs.Formats.{written}

-- the number of the round, the origin and the latency
abbrev pub answer_times : Answer → List Text
answer_times answer =
    counted ((codes "round", answer.number) ∷ (codes "origin", answer.origin) ∷ (codes "latency", answer.latency) ∷ [])

-- the deadline of the chain, if it has one
abbrev pub if_deadline : ℕ → List Text
if_deadline deadline = if deadline == 0 then [] else counted ((codes "deadline", deadline) ∷ [])

abbrev pub answer_words : System → Answer → List Text
answer_words system answer =
    codes "answer" ∷ chain_name system answer.chain ∷ answer_times answer ++ if_deadline answer.deadline

-- the line of an answer: when and on which core the round ended, and the answer
abbrev pub answer_text : System → Answer → Text
answer_text system answer = line (decimal answer.moment) (decimal answer.core ∷ answer_words system answer)

-- in the columns of jobs, with those of chains behind them
abbrev pub answer_fields : System → Answer → Fields
answer_fields system answer =
    (codes "moment", amount answer.moment) ∷ (codes "core", amount answer.core) ∷ (codes "kind", name (codes "answer"))
    ∷ (codes "thread", name (thread_name system answer.thread)) ∷ (codes "number", amount answer.number) ∷ (codes "activated", empty)
    ∷ (codes "begun", empty) ∷ (codes "response", empty) ∷ (codes "queued", empty) ∷ (codes "preemptions", empty) ∷ (codes "ready", empty)
    ∷ (codes "running", empty) ∷ (codes "throttled", empty) ∷ (codes "blocked", empty) ∷ (codes "server", empty)
    ∷ (codes "chain", name (chain_name system answer.chain)) ∷ (codes "latency", amount answer.latency)
    ∷ (codes "deadline", deadline_known answer.deadline) ∷ (codes "origin", amount answer.origin) ∷ []

abbrev pub answer_line : Format → System → Answer → Text
answer_line how system answer = written how (answer_text system answer) (answer_fields system answer)

abbrev pub answer_lines : Format → System → List Answer → Text
answer_lines how system answers = flat_map (answer_line how system) answers
