use Rattle.std.proofs.Common.{◌≡◌, ◌++◌, ℕ, List, take}
use Rattle.std.specs.Prelude.{filter}
use Rattle.mcs_chain.specs.declared.answer.Answer.{Answer}
use Rattle.mcs_way.specs.Sought.{count_of, is_of}
use Rattle.mcs_way.proofs.count.Count.take_all.Given as goal

abbrev pub invariant-loop-answer : goal.invariant-loop-answer
invariant-loop-answer l =
    (number : ℕ) (answers : List Answer) → l.initial.self ≡ count_of number answers
    → l.self ≡ count_of number (answers ++ filter (is_of l.chain) (take l.answer-index l.more))
