use Rattle.std.proofs.Common.{◌≡◌, ◌≤◌, ◌<◌, All, length, None}
use Rattle.mcs_ticks.specs.Queue.{by_priority}
use Rattle.mcs_mail.specs.declared.mail.Mail.{Mail}
use Rattle.mcs_mail.specs.Box.{arriving, staying}
use Rattle.mcs_core.specs.Turn.{each, arrives}
use Rattle.mcs_core.specs.stored.Sound.{IsSound}
use Rattle.mcs_core.specs.stored.Sound.Phase.{PastTick}
use Rattle.mcs_core.proofs.Loops.{GoesOn}
use Rattle.mcs_core.proofs.local.Local.take_in.Given as goal

abbrev pub invariant-mails : goal.invariant-mails
invariant-mails g l = record {
  sound : IsSound l.here.system.now l.here.core l.here.moment PastTick None l.self;
  known : All (λ (mail : Mail). mail.note < length l.here.system.now.notes) l.mail.mails;
  come : All (λ (mail : Mail). l.here.moment ≤ mail.arrives) l.mail.mails;
  stay : staying l.here.moment l.mail.mails ≡ staying l.here.moment l.initial.mail.mails;
  goes : GoesOn g.S.Sink.takes l.here (each (arrives by_priority l.here.system.now l.here.moment) (arriving l.here.moment l.initial.mail.mails) l.initial.self)
      (each (arrives by_priority l.here.system.now l.here.moment) (arriving l.here.moment l.mail.mails) l.self) l.initial.log l.log;
}

abbrev pub decreases-mails : goal.decreases-mails
decreases-mails g l = length l.mail.mails
