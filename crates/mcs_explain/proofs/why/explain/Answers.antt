use Rattle.std.proofs.Common.{◌∙◌, sym}
use Rattle.mcs_check_words.specs.CommandLine.{question_texts}
use Rattle.mcs_explain.proofs.Questions.{explained}
use Rattle.mcs_explain.proofs.why.explain.Goals as goal

pub returns-clause-explained : goal.returns-clause-explained
returns-clause-explained g c =
    explained _ _ _ c.args.options.now (question_texts c.args.question.now) _ _ _ _ _ c.in_ok-system.system (sym c.is_mixed.ensures ∙ c.if-is_mixed.false)
    c.in_ok-system.ensures.ok c.answer.result c.answer.ensures.told
