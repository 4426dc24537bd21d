use Rattle.std.proofs.Common.{◌≡◌, Err, IfErr, rules, [], false, true, ◌∙◌}
use Rattle.std.specs.Arc.{arc_value}
use Rattle.mcs_system.specs.System.{System}
use Rattle.mcs_core.specs.Clock.{schedule}
use Rattle.mcs_text.specs.Text.{schedule_text}
use Rattle.mcs_ticks.specs.declared.sink.FlowFault.TheVariants as fault
use Rattle.mcs_cli.specs.Devices.{AppendsPrefix}
use Rattle.mcs_cli.specs.Flow.{AppendsBefore, IsWriteFault}
use Rattle.mcs_cli.specs.declared.fault.RunFault.TheVariants as run
use Rattle.mcs_team.specs.declared.run.SimFault.TheVariants as memory
use Rattle.mcs_cli.proofs.Flow.{fault-memory, prefix-before}
use Rattle.mcs_cli.proofs.Rows.{at-last, at-target, err-is, lines_fail, lines_given, lines_some, lines_until}
use Rattle.mcs_cli.proofs.output.write_rows.Goals as goal

pub returns-in-Ok-clause-ok : goal.returns-in-Ok-clause-ok
returns-in-Ok-clause-ok g c =
    let held = g.T.Target.contents in
    let system : System = arc_value c.args.system.now in
    let first = c.new-lines.result in
    let last = c.give_rows-result.new.lines in
    let empty : c.new-lines.result.page.now ≡ [] = search rules in
    let system_is : c.new-lines.result.names.now ≡ arc_value c.args.system.now = search rules in
    let shared_is : arc_value c.in_ok-shared.shared ≡ arc_value c.args.system.now = search rules in
    let ended = lines_given held g.T.Target.has_failed first last system (arc_value c.in_ok-shared.shared) c.args.options.now.horizon c.args.target.now
    empty system_is shared_is c.new-lines.ensures.target_now c.in-Ok.ensures.given in
    let target_is : c.give_rows-result.new.lines.target.ghost_name ≡ c.new-lines.result.target.ghost_name = ended.0.target_is in
    let page_is : c.give_rows-result.new.lines.page.ghost_name ≡ c.new-lines.result.page.ghost_name = ended.0.page_is in
    at-last (λ w xs. AppendsBefore (held c.args.target.now) (held w) (schedule_text system (schedule system c.args.options.now.horizon)) xs)
    last.target.now _ last.page.now _ (search rules) (search rules) ended.2

pub returns-in-Ok-clause-working : goal.returns-in-Ok-clause-working
returns-in-Ok-clause-working g c =
    let held = g.T.Target.contents in
    let system : System = arc_value c.args.system.now in
    let first = c.new-lines.result in
    let last = c.give_rows-result.new.lines in
    let empty : c.new-lines.result.page.now ≡ [] = search rules in
    let system_is : c.new-lines.result.names.now ≡ arc_value c.args.system.now = search rules in
    let shared_is : arc_value c.in_ok-shared.shared ≡ arc_value c.args.system.now = search rules in
    let ended = lines_given held g.T.Target.has_failed first last system (arc_value c.in_ok-shared.shared) c.args.options.now.horizon c.args.target.now
    empty system_is shared_is c.new-lines.ensures.target_now c.in-Ok.ensures.given in
    let target_is : c.give_rows-result.new.lines.target.ghost_name ≡ c.new-lines.result.target.ghost_name = ended.0.target_is in
    at-target (λ w. g.T.Target.has_failed w ≡ false) last.target.now _ (search rules) (ended.1 ∙ c.requires.working)

pub returns-in-Err-NoMemory-clause-fault : goal.returns-in-Err-NoMemory-clause-fault
returns-in-Err-NoMemory-clause-fault g c =
    let held = g.T.Target.contents in
    let system : System = arc_value c.args.system.now in
    let first = c.new-lines.result in
    let last = c.give_rows-result.new.lines in
    let empty : c.new-lines.result.page.now ≡ [] = search rules in
    let system_is : c.new-lines.result.names.now ≡ arc_value c.args.system.now = search rules in
    let shared_is : arc_value c.in_ok-shared.shared ≡ arc_value c.args.system.now = search rules in
    let is : c.give_rows-result.result ≡ Err fault.NoMemory = search rules in
    let ended = lines_some held g.T.Target.has_failed first last system (arc_value c.in_ok-shared.shared) c.args.options.now.horizon c.args.target.now
    empty system_is shared_is c.new-lines.ensures.target_now (err-is _ c.give_rows-result.result fault.NoMemory is c.give_rows-result.ensures.fault) in
    let target_is : c.give_rows-result.new.lines.target.ghost_name ≡ c.new-lines.result.target.ghost_name = ended.0.target_is in
    at-target (λ w. (g.T.Target.has_failed w ≡ false) × AppendsPrefix (held c.args.target.now) (held w) (schedule_text system (schedule system c.args.options.now.horizon)))
    last.target.now _ (search rules) (ended.1 ∙ c.requires.working, ended.2)

pub returns-clause-fault : goal.returns-clause-fault
returns-clause-fault g c =
    let held = g.T.Target.contents in
    let system : System = arc_value c.args.system.now in
    let first = c.new-lines.result in
    let last = c.give_rows-result.new.lines in
    let empty : c.new-lines.result.page.now ≡ [] = search rules in
    let system_is : c.new-lines.result.names.now ≡ arc_value c.args.system.now = search rules in
    let shared_is : arc_value c.in_ok-shared.shared ≡ arc_value c.args.system.now = search rules in
    let is : c.give_rows-result.result ≡ Err fault.Sink = search rules in
    let given = err-is _ c.give_rows-result.result fault.Sink is c.give_rows-result.ensures.fault in
    let ended = lines_until held g.T.Target.has_failed first last system (arc_value c.in_ok-shared.shared) c.args.options.now.horizon c.args.target.now
    empty system_is shared_is c.new-lines.ensures.target_now given in
    let target_is : c.give_rows-result.new.lines.target.ghost_name ≡ c.new-lines.result.target.ghost_name = ended.0.target_is in
    at-target (λ w. (g.T.Target.has_failed w ≡ true) × AppendsPrefix (held c.args.target.now) (held w) (schedule_text system (schedule system c.args.options.now.horizon)))
    last.target.now _ (search rules) (lines_fail held g.T.Target.has_failed first last (schedule (arc_value c.in_ok-shared.shared) c.args.options.now.horizon) given, ended.1)

pub returns-in_err-extend_from_slice-in-Ok-clause-fault : goal.returns-in_err-extend_from_slice-in-Ok-clause-fault
returns-in_err-extend_from_slice-in-Ok-clause-fault g c =
    let held = g.T.Target.contents in
    let system : System = arc_value c.args.system.now in
    let first = c.new-lines.result in
    let last = c.give_rows-result.new.lines in
    let empty : c.new-lines.result.page.now ≡ [] = search rules in
    let system_is : c.new-lines.result.names.now ≡ arc_value c.args.system.now = search rules in
    let shared_is : arc_value c.in_ok-shared.shared ≡ arc_value c.args.system.now = search rules in
    let ended = lines_given held g.T.Target.has_failed first last system (arc_value c.in_ok-shared.shared) c.args.options.now.horizon c.args.target.now
    empty system_is shared_is c.new-lines.ensures.target_now c.in-Ok.ensures.given in
    let target_is : c.give_rows-result.new.lines.target.ghost_name ≡ c.new-lines.result.target.ghost_name = ended.0.target_is in
    let out : IfErr c.from_residual-in_err-extend_from_slice-in-Ok.result (λ f. f ≡ run.Sim memory.NoMemory) = search rules in
    at-target (λ w. IfErr c.from_residual-in_err-extend_from_slice-in-Ok.result
    (IsWriteFault (held c.args.target.now) (held w) (g.T.Target.has_failed w) (schedule_text system (schedule system c.args.options.now.horizon))))
    last.target.now _ (search rules)
    (fault-memory _ _ _ _ c.from_residual-in_err-extend_from_slice-in-Ok.result (ended.1 ∙ c.requires.working) (prefix-before _ _ _ _ ended.2) out)
