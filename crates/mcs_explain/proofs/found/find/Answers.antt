use Rattle.std.proofs.Common.{rules, ◌≡◌, ◌∙◌, [], ap, ap₂, sym}
use Rattle.std.specs.Arc.{arc_value}
use Rattle.mcs_core.specs.Clock.{schedule}
use Rattle.mcs_verdict.specs.Findings.{past_of}
use Rattle.mcs_why.specs.Spans.{sought}
use Rattle.mcs_way.specs.Sought.{sought as answer_sought}
use Rattle.mcs_check_words.specs.CommandLine.{question_texts}
use Rattle.mcs_explain.specs.Asked.{asked_of, round_number}
use Rattle.mcs_explain.proofs.Questions.{answer-is, found-is, round-is}
use Rattle.mcs_explain.proofs.found.find.Goals as goal

pub returns-in_ok-sought-in-Round-clause-found : goal.returns-in_ok-sought-in-Round-clause-found
returns-in_ok-sought-in-Round-clause-found g c =
    let question = question_texts c.args.question.now in
    let horizon = c.args.options.now.horizon in
    let system = arc_value c.args.system.now in
    let parts_is : c.parts.result.now ≡ arc_value c.args.system.now = search rules in
    let asks = sym (c.asked_of.ensures.named ∙ ap₂ asked_of parts_is c.as_str-2.ensures.value) ∙ c.in-Round.is in
    let number = c.round_number-number.ensures ∙ ap round_number c.as_str.ensures.value in
    let found = c.in_ok-sought-in-Round.ensures.found ∙ ap (sought system horizon (past_of [] (schedule system horizon)) c.in-Round.thread) number in
    c.round_found.ensures ∙ round-is system horizon question c.in-Round.thread _ asks found

pub returns-in_ok-sought-in-Answer-clause-found : goal.returns-in_ok-sought-in-Answer-clause-found
returns-in_ok-sought-in-Answer-clause-found g c =
    let question = question_texts c.args.question.now in
    let horizon = c.args.options.now.horizon in
    let system = arc_value c.args.system.now in
    let parts_is : c.parts.result.now ≡ arc_value c.args.system.now = search rules in
    let asks = sym (c.asked_of.ensures.named ∙ ap₂ asked_of parts_is c.as_str-2.ensures.value) ∙ c.in-Answer.is in
    let number = c.round_number-number.ensures ∙ ap round_number c.as_str.ensures.value in
    let found = c.in_ok-sought-in-Answer.ensures.found ∙ ap (λ n. answer_sought system c.in-Answer.chain n (past_of [] (schedule system horizon))) number in
    c.answer_found.ensures ∙ answer-is system horizon question c.in-Answer.chain _ asks found

pub returns-in-Nobody-clause-found : goal.returns-in-Nobody-clause-found
returns-in-Nobody-clause-found g c =
    let question = question_texts c.args.question.now in
    let horizon = c.args.options.now.horizon in
    let system = arc_value c.args.system.now in
    let parts_is : c.parts.result.now ≡ arc_value c.args.system.now = search rules in
    let asks = sym (c.asked_of.ensures.named ∙ ap₂ asked_of parts_is c.as_str-2.ensures.value) ∙ c.in-Nobody.is in
    sym (found-is system horizon question _ asks)
