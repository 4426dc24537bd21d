use Rattle.std.proofs.Common.{rules, ◌≡◌, ap, sym, subst}
use Rattle.std.specs.Prelude.{Err}
use Rattle.std.specs.Arc.{arc_value}
use Rattle.std.specs.Io.KnownBytes.{Appends}
use Rattle.mcs_core.specs.Clock.{schedule}
use Rattle.mcs_cli.specs.Flow.{IsWriteFault}
use Rattle.mcs_check_words.specs.CommandLine.{question_texts}
use Rattle.mcs_explain.specs.declared.found.Found.TheVariants as found
use Rattle.mcs_explain.specs.declared.why_fault.WhyFault.TheVariants.{Run}
use Rattle.mcs_explain.specs.Asked.{IsNobody}
use Rattle.mcs_explain.specs.Explained.{IsTold}
use Rattle.mcs_explain.specs.Why.{answer_text, is_there, round_text}
use Rattle.mcs_explain.proofs.Questions.{all-told, answer-text, answer-told, fault-told, found-there, memory-told, nobody-told, round-text, round-told}
use Rattle.mcs_explain.proofs.why.answer.Goals as goal

pub returns-in_err-found-clause-told : goal.returns-in_err-found-clause-told
returns-in_err-found-clause-told g c =
    let question = question_texts c.args.question.now in
    let result_is : c.from_residual.result ≡ Err (Run c.in_err-found.field-0.0) = search rules in
    subst (IsTold (g.T.Target.contents c.args.target.now) (g.T.Target.contents c.args.target.now) (g.T.Target.has_failed c.args.target.now) c.args.options.now question c.args.system)
    (sym result_is) (memory-told c.args.options.now question c.args.system _ _ _ c.in_err-found.ensures.fault)

pub returns-in_err-write_span-in-Round-clause-told : goal.returns-in_err-write_span-in-Round-clause-told
returns-in_err-write_span-in-Round-clause-told g c =
    let held = g.T.Target.contents in
    let failed = g.T.Target.has_failed in
    let o = c.args.options.now in
    let question = question_texts c.args.question.now in
    let span = c.in-Round.span in
    let system_is : arc_value c.in-Ok.system ≡ c.args.system = search rules in
    let there = found-there c.args.system o.horizon question _ system_is _ (found.Round span) c.in_ok-found.ensures.found c.in-Round.is in
    let result_is : c.from_residual-in_err-write_span-in-Round.result ≡ Err (Run c.in_err-write_span-in-Round.field-0.0) = search rules in
    let fault = subst (λ s. IsWriteFault (held c.args.target.now) (held c.write_span.new.target) (failed c.write_span.new.target)
    (round_text o.format s span (schedule s o.horizon)) c.in_err-write_span-in-Round.field-0.0) system_is c.in_err-write_span-in-Round.ensures.fault in
    subst (IsTold (held c.args.target.now) (held c.write_span.new.target) (failed c.write_span.new.target) o question c.args.system)
    (sym result_is) (fault-told o question c.args.system _ _ _ _ (round-text o question c.args.system span there) c.in_err-write_span-in-Round.field-0.0 fault)

pub returns-in-Round-clause-told : goal.returns-in-Round-clause-told
returns-in-Round-clause-told g c =
    let held = g.T.Target.contents in
    let o = c.args.options.now in
    let question = question_texts c.args.question.now in
    let span = c.in-Round.span in
    let system_is : arc_value c.in-Ok.system ≡ c.args.system = search rules in
    let there = found-there c.args.system o.horizon question _ system_is _ (found.Round span) c.in_ok-found.ensures.found c.in-Round.is in
    let appended = subst (λ s. Appends (held c.args.target.now) (held c.write_span.new.target) (round_text o.format s span (schedule s o.horizon)))
    system_is c.in_ok-write_span-in-Round.ensures.ok in
    all-told o question c.args.system _ _ (g.T.Target.has_failed c.write_span.new.target) _ (round-text o question c.args.system span there) _
    (ap is_there there) appended

pub returns-in_err-write_way-in-Answer-clause-told : goal.returns-in_err-write_way-in-Answer-clause-told
returns-in_err-write_way-in-Answer-clause-told g c =
    let held = g.T.Target.contents in
    let failed = g.T.Target.has_failed in
    let o = c.args.options.now in
    let question = question_texts c.args.question.now in
    let answer = c.in-Answer.answer in
    let system_is : arc_value c.in-Ok.system ≡ c.args.system = search rules in
    let there = found-there c.args.system o.horizon question _ system_is _ (found.Answer answer) c.in_ok-found.ensures.found c.in-Answer.is in
    let result_is : c.from_residual-in_err-write_way-in-Answer.result ≡ Err (Run c.in_err-write_way-in-Answer.field-0.0) = search rules in
    let fault = subst (λ s. IsWriteFault (held c.args.target.now) (held c.write_way.new.target) (failed c.write_way.new.target)
    (answer_text o.format s answer (schedule s o.horizon)) c.in_err-write_way-in-Answer.field-0.0) system_is c.in_err-write_way-in-Answer.ensures.fault in
    subst (IsTold (held c.args.target.now) (held c.write_way.new.target) (failed c.write_way.new.target) o question c.args.system)
    (sym result_is) (fault-told o question c.args.system _ _ _ _ (answer-text o question c.args.system answer there) c.in_err-write_way-in-Answer.field-0.0 fault)

pub returns-in-Answer-clause-told : goal.returns-in-Answer-clause-told
returns-in-Answer-clause-told g c =
    let held = g.T.Target.contents in
    let o = c.args.options.now in
    let question = question_texts c.args.question.now in
    let answer = c.in-Answer.answer in
    let system_is : arc_value c.in-Ok.system ≡ c.args.system = search rules in
    let there = found-there c.args.system o.horizon question _ system_is _ (found.Answer answer) c.in_ok-found.ensures.found c.in-Answer.is in
    let appended = subst (λ s. Appends (held c.args.target.now) (held c.write_way.new.target) (answer_text o.format s answer (schedule s o.horizon)))
    system_is c.in_ok-write_way-in-Answer.ensures.ok in
    all-told o question c.args.system _ _ (g.T.Target.has_failed c.write_way.new.target) _ (answer-text o question c.args.system answer there) _
    (ap is_there there) appended

pub returns-in-NoRound-clause-told : goal.returns-in-NoRound-clause-told
returns-in-NoRound-clause-told g c =
    let o = c.args.options.now in
    let question = question_texts c.args.question.now in
    let rounds = c.in-NoRound.rounds in
    let system_is : arc_value c.in-Ok.system ≡ c.args.system = search rules in
    let there = found-there c.args.system o.horizon question _ system_is _ (found.NoRound rounds) c.in_ok-found.ensures.found c.in-NoRound.is in
    round-told o question c.args.system _ _ c.no_round.result rounds there c.no_round.ensures

pub returns-in-NoAnswer-clause-told : goal.returns-in-NoAnswer-clause-told
returns-in-NoAnswer-clause-told g c =
    let o = c.args.options.now in
    let question = question_texts c.args.question.now in
    let answers = c.in-NoAnswer.answers in
    let system_is : arc_value c.in-Ok.system ≡ c.args.system = search rules in
    let there = found-there c.args.system o.horizon question _ system_is _ (found.NoAnswer answers) c.in_ok-found.ensures.found c.in-NoAnswer.is in
    answer-told o question c.args.system _ _ c.no_answer.result answers there c.no_answer.ensures

pub returns-clause-told : goal.returns-clause-told
returns-clause-told g c =
    let o = c.args.options.now in
    let question = question_texts c.args.question.now in
    let system_is : arc_value c.in-Ok.system ≡ c.args.system = search rules in
    let there = found-there c.args.system o.horizon question _ system_is _ found.Nobody c.in_ok-found.ensures.found c.in-Nobody.is in
    let own_is : c.parts.result.now ≡ c.args.system = search rules in
    let fault = subst (λ name. IsNobody c.args.system name c.nobody.result) c.as_str.ensures.value
    (subst (λ s. IsNobody s c.as_str.result.now c.nobody.result) own_is c.nobody.ensures) in
    nobody-told o question c.args.system _ _ c.nobody.result there fault
