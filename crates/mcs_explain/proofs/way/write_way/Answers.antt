use Rattle.std.proofs.Common.{rules, ◌≡◌, IfErr}
use Rattle.std.specs.Arc.{arc_value}
use Rattle.std.proofs.lemmas.Result.{IfErr-weaker}
use Rattle.mcs_core.specs.Clock.{schedule}
use Rattle.mcs_cli.specs.declared.fault.RunFault.TheVariants as run
use Rattle.mcs_team.specs.declared.run.SimFault.TheVariants.{NoMemory}
use Rattle.mcs_explain.specs.Why.{answer_text}
use Rattle.mcs_explain.proofs.Questions.{memory-fault}
use Rattle.mcs_explain.proofs.way.write_way.Goals as goal

pub returns-in_err-text-clause-fault : goal.returns-in_err-text-clause-fault
returns-in_err-text-clause-fault g c =
    let text = answer_text c.args.options.now.format (arc_value c.args.system.now) c.args.answer.now (schedule (arc_value c.args.system.now) c.args.options.now.horizon) in
    let out : IfErr c.from_residual.result (λ f. f ≡ run.Sim NoMemory) = search rules in
    IfErr-weaker c.from_residual.result _ _ (λ f is. memory-fault (g.T.Target.contents c.args.target.now) _ text f is c.requires.working) out
