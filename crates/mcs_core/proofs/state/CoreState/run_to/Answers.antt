use Rattle.std.proofs.Common.{◌++◌, rules}
use Rattle.mcs_core.specs.Run.{Ran}
use Rattle.mcs_core.proofs.Reached.{whole-state, whole-made, whole-rows}
use Rattle.mcs_core.proofs.state.CoreState.run_to.Goals as goal

pub returns-clause-state : goal.returns-clause-state
returns-clause-state g c =
    let run = c.run_some_to in
    whole-state c.args.system.now c.args.self.now c.args.to c.args.mail.now.mails run.result run.new.self c.requires.fits run.ensures.reaches run.ensures.going run.ensures.state

pub returns-clause-rows : goal.returns-clause-rows
returns-clause-rows g c =
    let run = c.run_some_to in
    whole-rows c.args.system.now c.args.self.now c.args.to c.args.mail.now.mails g.S.Sink.takes run.result c.new-unmeasured.result run.new.sink run.new.self.clock c.args.sink.now _
    c.new-unmeasured.ensures.now run.ensures.reaches run.ensures.rows (λ same. search rules)

pub returns-clause-signals : goal.returns-clause-signals
returns-clause-signals g c =
    let run = c.run_some_to in
    whole-made c.args.system.now c.args.self.now c.args.to c.args.mail.now.mails run.result (λ (made : Ran). c.args.signals.now.items ++ made.mails) run.new.self.clock run.new.signals.items
    run.ensures.reaches run.ensures.signals

pub returns-clause-mail : goal.returns-clause-mail
returns-clause-mail g c =
    let run = c.run_some_to in
    whole-made c.args.system.now c.args.self.now c.args.to c.args.mail.now.mails run.result (λ (made : Ran). made.box) run.new.self.clock run.new.mail.mails
    run.ensures.reaches run.ensures.mail
