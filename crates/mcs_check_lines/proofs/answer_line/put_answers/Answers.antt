use Rattle.std.proofs.Common.{rules, ◌<◌, length}
use Rattle.mcs_check_lines.specs.Answers.{answer_line}
use Rattle.mcs_check_lines.proofs.Behind.{one-behind}
use Rattle.mcs_check_lines.proofs.answer_line.put_answers.Goals as goal

pub loop-answer-preserved : goal.loop-answer-preserved
loop-answer-preserved c =
    let has : c.loop-answer.answer-index < length c.args.all.now = search rules in
    one-behind (answer_line c.args.format c.args.system.now) c.args.all.now c.loop-answer.answer-index c.answer-item.result _ _ _ has c.answer-item.is
    c.in_ok-put_answer_as.ensures.ok c.loop-answer.invariant
