use Rattle.std.specs.Prelude.{All}
use Rattle.mcs_core.specs.State.{Fits, IsExpected}
use Rattle.mcs_tests_core.proofs.stretches.ends_at.Given as goal

abbrev pub invariant-loop-stretch : goal.invariant-loop-stretch
invariant-loop-stretch g l = record { fits : Fits l.system l.state; expected : All (IsExpected l.system l.state) l.mailbox.mails }
