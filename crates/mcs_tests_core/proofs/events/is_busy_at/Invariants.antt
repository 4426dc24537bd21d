use Rattle.std.specs.Prelude.{All}
use Rattle.mcs_core.specs.State.{Fits, IsExpected}
use Rattle.mcs_tests_core.proofs.events.is_busy_at.Given as goal

abbrev pub invariant-loop-next : goal.invariant-loop-next
invariant-loop-next g l = record { fits : Fits l.system l.state; expected : All (IsExpected l.system l.state) l.mailbox.mails }
