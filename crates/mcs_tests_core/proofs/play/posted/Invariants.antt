use Rattle.std.specs.Prelude.{All}
use Rattle.mcs_core.specs.State.{IsExpected}
use Rattle.mcs_tests_core.proofs.play.posted.Given as goal

abbrev pub invariant-loop-letter : goal.invariant-loop-letter
invariant-loop-letter l = All (IsExpected l.system l.state) l.mailbox.mails
