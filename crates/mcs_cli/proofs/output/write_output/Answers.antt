use Rattle.std.proofs.Common.{◌≡◌, IfErr, OnErr, OnOk, rules, subst}
use Rattle.std.specs.Arc.{arc_value}
use Rattle.std.specs.Io.KnownBytes.{Appends}
use Rattle.std.proofs.KnownBytes.{Appends-nil}
use Rattle.mcs_cli.specs.Devices.{AppendsPrefix}
use Rattle.mcs_cli.specs.Flow.{AppendsBefore}
use Rattle.mcs_cli.specs.Run.{output_of}
use Rattle.mcs_team.specs.declared.run.SimFault.TheVariants.{NoMemory}
use Rattle.mcs_cli.specs.declared.fault.RunFault.TheVariants as fault
use Rattle.mcs_cli.proofs.Flow.{fault-memory, fault-then, ok-then}
use Rattle.mcs_cli.proofs.output.write_output.Goals as goal

pub returns-clause-fault : goal.returns-clause-fault
returns-clause-fault g c =
    let held = g.T.Target.contents in
    let options = c.args.options.now in
    let system_is : arc_value c.in_ok-system.system ≡ c.args.system = search rules in
    let before : AppendsBefore (held c.args.target.now) (held c.put_output.new.target) (output_of options.show c.args.system options.horizon) c.put_output.new.text.items =
    subst (λ system. AppendsBefore (held c.args.target.now) (held c.put_output.new.target) (output_of options.show system options.horizon) c.put_output.new.text.items)
    system_is c.in_ok-put_output.ensures.ok
    in
    let prefix : OnErr c.write_text.result (AppendsPrefix (held c.put_output.new.target) (held c.write_text.new.target) c.put_output.new.text.items) =
    subst (λ text. OnErr c.write_text.result (AppendsPrefix (held c.put_output.new.target) (held c.write_text.new.target) text)) c.as_slice.ensures.value c.write_text.ensures.prefix
    in
    fault-then _ _ _ _ _ _ c.write_text.result before prefix c.write_text.ensures.fault

pub returns-in_err-system-clause-fault : goal.returns-in_err-system-clause-fault
returns-in_err-system-clause-fault g c =
    let held = g.T.Target.contents c.args.target.now in
    let out : IfErr c.from_residual.result (λ f. f ≡ fault.Sim NoMemory) = search rules in
    fault-memory held held _ _ c.from_residual.result c.requires (0, Appends-nil held) out

pub returns-clause-ok : goal.returns-clause-ok
returns-clause-ok g c =
    let held = g.T.Target.contents in
    let options = c.args.options.now in
    let system_is : arc_value c.in_ok-system.system ≡ c.args.system = search rules in
    let before : AppendsBefore (held c.args.target.now) (held c.put_output.new.target) (output_of options.show c.args.system options.horizon) c.put_output.new.text.items =
    subst (λ system. AppendsBefore (held c.args.target.now) (held c.put_output.new.target) (output_of options.show system options.horizon) c.put_output.new.text.items)
    system_is c.in_ok-put_output.ensures.ok
    in
    let written : OnOk c.write_text.result (Appends (held c.put_output.new.target) (held c.write_text.new.target) c.put_output.new.text.items) =
    subst (λ text. OnOk c.write_text.result (Appends (held c.put_output.new.target) (held c.write_text.new.target) text)) c.as_slice.ensures.value c.write_text.ensures.ok
    in
    ok-then _ _ _ _ _ c.write_text.result before written
