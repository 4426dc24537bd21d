use Rattle.mcs_core.proofs.Runs.{left_expected}
use Rattle.mcs_tests_core.proofs.play.go_on.Goals as goal

pub returns-clause-expected : goal.returns-clause-expected
returns-clause-expected c =
    rw (c.in_ok-run.ensures.mail, c.in_ok-run.ensures.state) (left_expected c.args.system.now c.args.state.now c.args.to c.args.mailbox.now.mails c.requires.expected)
