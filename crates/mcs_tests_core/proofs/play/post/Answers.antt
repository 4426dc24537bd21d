use Rattle.std.proofs.Common.{subst, sym}
use Rattle.std.specs.Prelude.{All}
use Rattle.mcs_core.specs.State.{IsExpected}
use Rattle.mcs_core.proofs.Runs.{all_put}
use Rattle.mcs_tests_core.proofs.play.post.Goals as goal

pub returns : goal.returns
returns c =
    let P = IsExpected c.args.system.now c.args.state.now in
    subst (All P) (sym c.in_ok-put.ensures.ok) (all_put P c.args.mail c.args.mailbox.now.mails c.requires.it c.requires.others)
