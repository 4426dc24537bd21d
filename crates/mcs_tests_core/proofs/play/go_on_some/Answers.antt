use Rattle.mcs_core.proofs.Runs.{expected-after}
use Rattle.mcs_tests_core.proofs.play.go_on_some.Goals as goal

pub returns-clause-expected : goal.returns-clause-expected
returns-clause-expected c =
    expected-after c.args.system.now c.args.state.now c.run_some.new.self c.run_some.new.self.clock c.args.mailbox.now.mails c.run_some.new.mail.mails
    c.in_ok-run_some.ensures.state c.in_ok-run_some.ensures.mail c.requires.expected
