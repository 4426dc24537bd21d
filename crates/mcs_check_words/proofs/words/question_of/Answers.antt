use Rattle.std.proofs.Common.{◌∙◌, ap, []}
use Rattle.std.specs.Prelude.{unwrap_or}
use Rattle.std.proofs.lemmas.Result.{IfOk-weaker}
use Rattle.clap.specs.Words.{found_of}
use Rattle.clap.proofs.WalkLemmas.{raw_values-rows}
use Rattle.mcs_check_words.specs.CommandLine.{first_two}
use Rattle.mcs_check_words.proofs.words.question_of.Goals as goal

pub returns-in-Some : goal.returns-in-Some
returns-in-Some c =
    let all = c.in-Some.ensures ∙ raw_values-rows (found_of c.args.matches.now) _ in
    IfOk-weaker c.question.result _ _ (λ why asked. asked ∙ ap (λ o. first_two (unwrap_or o [])) all) c.question.ensures

pub returns-in-None : goal.returns-in-None
returns-in-None c =
    let none = c.in-None.ensures ∙ raw_values-rows (found_of c.args.matches.now) _ in
    ap (λ o. first_two (unwrap_or o [])) none
