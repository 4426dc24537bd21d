use Rattle.std.proofs.Common.{rules, ◌∷◌, [], ◌++◌, codes}
use Rattle.std.proofs.lemmas.Result.{on_ok_weaker}
use Rattle.mcs_check_lines.specs.Answers.{answer_times, if_deadline}
use Rattle.mcs_check_lines.specs.Names.{chain_name}
use Rattle.mcs_check_lines.proofs.Words.{then-words}
use Rattle.mcs_check_lines.proofs.answer_line.append_answer_words.Goals as goal

pub returns-clause-ok : goal.returns-clause-ok
returns-clause-ok c =
    let answer = c.args.answer.now in
    let named = codes "answer" ∷ chain_name c.args.system.now answer.chain ∷ [] in
    let timed = then-words _ _ _ named (answer_times answer) (search rules) c.in_ok-append_times.ensures.ok in
    on_ok_weaker c.append_deadline.result (λ last. then-words _ _ _ (named ++ answer_times answer) (if_deadline answer.deadline) timed last)
    c.append_deadline.ensures.ok
