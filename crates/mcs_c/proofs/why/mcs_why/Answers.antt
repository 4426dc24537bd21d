use Rattle.std.proofs.Common.{rules, ◌≡◌, ℕ, List, inl, subst, take}
use Rattle.mcs_check_words.specs.CommandLine.{question_texts}
use Rattle.mcs_c.specs.Check.{format_of}
use Rattle.mcs_c.specs.Why.{IsWhyFaultLine, IsWhyText}
use Rattle.mcs_c.proofs.Given.{by-words, fault-is, lines-are}
use Rattle.mcs_c.proofs.why.mcs_why.Goals as goal

pub returns-clause-lines : goal.returns-clause-lines
returns-clause-lines c =
    let o = c.options_of-options.result in
    let text = c.args.text.now in
    let asked = question_texts c.in-Ok.question in
    let question : List ℕ × List ℕ = (c.args.thread.now, c.args.round.now) in
    let same_question : asked ≡ question = search rules in
    let same_horizon : o.horizon ≡ c.args.horizon = search rules in
    let same_format : o.format ≡ format_of c.args.format = search rules in
    let bytes = take c.hand_out.new.length_of c.hand_out.new.room in
    λ zero. by-words (λ (q : List ℕ × List ℕ) horizon how code. IsWhyText text q horizon how bytes code) asked question o.horizon c.args.horizon
    o.format (format_of c.args.format) c.hand_out.result 0 same_question same_horizon same_format zero
    (lines-are (IsWhyText text asked o.horizon o.format) (IsWhyFaultLine text asked o.horizon) c.hand_out.result bytes
    c.answer_on.result c.answer_on.ensures.verdict c.hand_out.ensures.given (inl zero))

pub returns-clause-fault : goal.returns-clause-fault
returns-clause-fault c =
    let o = c.options_of-options.result in
    let text = c.args.text.now in
    let asked = question_texts c.in-Ok.question in
    let question : List ℕ × List ℕ = (c.args.thread.now, c.args.round.now) in
    let same_question : asked ≡ question = search rules in
    let same_horizon : o.horizon ≡ c.args.horizon = search rules in
    let bytes = take c.hand_out.new.length_of c.hand_out.new.room in
    λ one. subst (λ horizon. IsWhyFaultLine text question horizon bytes) same_horizon
    (subst (λ (q : List ℕ × List ℕ). IsWhyFaultLine text q o.horizon bytes) same_question
    (fault-is (IsWhyText text asked o.horizon o.format) (IsWhyFaultLine text asked o.horizon) c.hand_out.result bytes
    c.answer_on.result c.answer_on.ensures.verdict c.answer_on.ensures.code c.hand_out.ensures.given one))
