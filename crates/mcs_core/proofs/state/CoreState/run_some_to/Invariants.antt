use Rattle.std.proofs.Common.{◌≡◌, ◌≤◌, ◌++◌, ◌-◌, ◌+◌, ◌<◌, All, false}
use Rattle.std.specs.Prelude.{max}
use Rattle.mcs_ticks.specs.Given.{Given, IsShortAfter}
use Rattle.mcs_core.specs.State.{Fits, IsExpected, made_by, state_after}
use Rattle.mcs_core.specs.stored.Ends.{IsEnd}
use Rattle.mcs_core.proofs.state.CoreState.run_some_to.Given as goal

abbrev pub invariant-turns : goal.invariant-turns
invariant-turns g l = record {
  going : l.self.failed ≡ false;
  from : l.initial.self.clock ≤ l.self.clock;
  past : l.self.clock ≤ max l.initial.self.clock l.to;
  fits : Fits l.system l.self;
  ends : l.self.clock < l.to → IsEnd l.system l.self.clock l.self.core l.ends;
  expected : All (IsExpected l.system l.self) l.mail.mails;
  state : l.self ≡ state_after l.initial.self l.self.clock (made_by l.system l.initial.self l.self.clock l.initial.mail.mails);
  fewer : g.S.Measured.size l.sink < max l.most (g.S.Measured.size l.initial.sink + 1);
  short : IsShortAfter g.S.Sink.takes g.S.Measured.size l.most l.initial.sink (made_by l.system l.initial.self (l.self.clock - 1) l.initial.mail.mails).rows;
  rows : Given g.S.Sink.takes l.initial.sink (made_by l.system l.initial.self l.self.clock l.initial.mail.mails).rows l.sink;
  signals : l.signals.items ≡ l.initial.signals.items ++ (made_by l.system l.initial.self l.self.clock l.initial.mail.mails).mails;
  mail : l.mail.mails ≡ (made_by l.system l.initial.self l.self.clock l.initial.mail.mails).box;
}

abbrev pub decreases-turns : goal.decreases-turns
decreases-turns g l = l.to - l.self.clock
