use Rattle.std.proofs.Common.{◌∙◌, ◌++◌, ap, append-nil}
use Rattle.std.proofs.lemmas.Result.{on_ok_weaker}
use Rattle.mcs_check_lines.specs.Answers.{answer_line, answer_lines}
use Rattle.mcs_explain.proofs.legs.put_answer.Goals as goal

pub returns : goal.returns
returns c =
    let how = c.args.format in
    let system = c.args.system.now in
    let alone = ap (answer_lines how system) c.from_ref.ensures.value ∙ append-nil (answer_line how system c.args.answer.now) in
    on_ok_weaker c.put_answers.result (λ e. e ∙ ap (λ l. c.args.text.now.items ++ l) alone) c.put_answers.ensures
