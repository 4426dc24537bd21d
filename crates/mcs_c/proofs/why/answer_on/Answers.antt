use Rattle.std.proofs.Common.{rules, ◌≡◌, Err}
use Rattle.mcs_cli.specs.Run.{loaded}
use Rattle.mcs_cli.specs.declared.fault.RunFault.TheVariants.{Load}
use Rattle.mcs_check_words.specs.CommandLine.{question_texts}
use Rattle.mcs_explain.specs.WhyFault.{why_fault_text}
use Rattle.mcs_explain.specs.declared.why_fault.WhyFault.TheVariants.{Run}
use Rattle.mcs_c.specs.Why.{IsWhyFaultLine, IsWhyText}
use Rattle.mcs_c.proofs.Given.{told-is}
use Rattle.mcs_c.proofs.why.answer_on.Goals as goal

pub returns-in-Err-2-clause-verdict : goal.returns-in-Err-2-clause-verdict
returns-in-Err-2-clause-verdict c =
    let o = c.args.options.now in
    let text = c.args.text.now in
    let question = question_texts c.args.question.now in
    let fault = Run (Load c.in-Err.fault) in
    let why : loaded text ≡ Err c.in-Err.fault = search rules in
    told-is (IsWhyText text question o.horizon o.format) (IsWhyFaultLine text question o.horizon) (why_fault_text fault) c.told.result c.told.ensures
    (λ line said. (fault, why, said))
