use Rattle.std.proofs.Common.{◌≡◌, ◌++◌, drop, flat_map}
use Rattle.mcs_check_lines.specs.Answers.{answer_line}
use Rattle.mcs_check_lines.proofs.answer_line.put_answers.Given as goal

abbrev pub invariant-loop-answer : goal.invariant-loop-answer
invariant-loop-answer l =
    l.text.items ++ flat_map (answer_line l.format l.system) (drop l.answer-index l.all)
    ≡ l.initial.text.items ++ flat_map (answer_line l.format l.system) l.all
