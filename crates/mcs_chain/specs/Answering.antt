-- The answers of a row: the round that it ends answers origins of chains.
use Rattle.std.specs.Prelude.{ℕ, suc, ◌-◌, List, [], ◌∷◌, ◌++◌, map, reverse}
use Rattle.mcs_ticks.specs.declared.row.Row.{Row}
use Rattle.mcs_ticks.specs.declared.row.What.{What}
use Rattle.mcs_ticks.specs.declared.row.What.TheVariants as row
use Rattle.mcs_system.specs.declared.part.ChainPart.{ChainPart}
use Rattle.mcs_system.specs.System.{System}
use Rattle.mcs_chain.specs.declared.answer.Answer.{Answer}
use Rattle.mcs_chain.specs.Answers.{origins}

-- the answer of chain n, which has this deadline, for an origin: the end of a thread's round of this
-- number
abbrev pub answer_to : ℕ → ℕ → Row → ℕ → ℕ → ℕ → Answer
answer_to n deadline r thread number origin =
    record {
      moment = r.moment;
      core = r.core;
      chain = n;
      thread = thread;
      number = number;
      origin = origin;
      latency = r.moment - origin;
      deadline = deadline;
    }

-- Those for these origins, if the row ends a round. A set has its latest origin first; the answer for
-- the earliest origin comes first.
abbrev pub answers_to : ℕ → ℕ → Row → What → List ℕ → List Answer
answers_to n deadline r (row.Round thread number response) answered = map (answer_to n deadline r thread number) (reverse answered)
answers_to n deadline r _ answered = []

-- the answers of a row that comes after these, by the chains from number n on
abbrev pub answers_at : System → List Row → Row → ℕ → List ChainPart → List Answer
answers_at system past r n [] = []
answers_at system past r n (chain ∷ chains) =
    answers_to n chain.deadline r r.what (origins system chain (r ∷ past)).answered ++ answers_at system past r (suc n) chains
