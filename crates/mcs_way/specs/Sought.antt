-- The answers of a chain, by the rows so far, the latest first, and the one with a number.
use Rattle.std.specs.Prelude.{ℕ, ◌-◌, Bool, ◌==◌, if◌then◌else◌, List, [], ◌∷◌, ◌++◌, filter, length, slice_get, Option, Some, None}
use Rattle.mcs_ticks.specs.declared.row.Row.{Row}
use Rattle.mcs_ticks.specs.Capped.{capped}
use Rattle.mcs_system.specs.System.{System}
use Rattle.mcs_chain.specs.declared.answer.Answer.{Answer}
use Rattle.mcs_chain.specs.Answering.{answers_at}
use Rattle.mcs_chain.specs.Watch.{Watch, watch_of}
use Rattle.mcs_way.specs.declared.count.Count.{Count}
use Rattle.mcs_way.specs.declared.sought.Sought.{Sought}
use Rattle.mcs_way.specs.declared.sought.Sought.TheVariants.{There, Missing}

abbrev pub is_of : ℕ → Answer → Bool
is_of chain answer = answer.chain == chain

-- the answers of a chain, the first one first
abbrev pub answers_of : System → ℕ → List Row → List Answer
answers_of system chain [] = []
answers_of system chain (r ∷ past) =
    answers_of system chain past ++ filter (is_of chain) (answers_at system past r 0 system.chains)

-- the one with this number, from 1
abbrev pub numbered : ℕ → List Answer → Option Answer
numbered number answers = if number == 0 then None else slice_get answers (number - 1)

-- the answers that were counted, and the one that is looked for
abbrev pub count_of : ℕ → List Answer → Count
count_of number answers = record { number = number; many = capped (length answers); found = numbered number answers }

abbrev pub sought_by : ℕ → Option Answer → Sought
sought_by many None = Missing many
sought_by many (Some answer) = There answer

-- the answer of the chain with this number, or how many answers there are
abbrev pub sought : System → ℕ → ℕ → List Row → Sought
sought system chain number past =
    sought_by (capped (length (answers_of system chain past))) (numbered number (answers_of system chain past))

pub record Search : Type 0 where
  pub watch : Watch
  pub chain : ℕ
  pub count : Count

-- the search after these rows
abbrev pub search_of : System → ℕ → ℕ → List Row → Search
search_of system chain number past =
    record { watch = watch_of system past; chain = chain; count = count_of number (answers_of system chain past) }
