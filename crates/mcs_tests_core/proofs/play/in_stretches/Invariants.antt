use Rattle.std.specs.Prelude.{All}
use Rattle.mcs_core.specs.State.{Fits, IsExpected}
use Rattle.mcs_tests_core.proofs.play.in_stretches.Given as goal

abbrev pub invariant-loop-number : goal.invariant-loop-number
invariant-loop-number l = record { fits : Fits l.system l.state; expected : All (IsExpected l.system l.state) l.mailbox.mails }
