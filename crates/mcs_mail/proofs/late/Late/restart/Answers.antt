use Rattle.std.proofs.Common.{ap, ◌∙◌}
use Rattle.mcs_mail.specs.stored.Numbers.{LateMail}
use Rattle.mcs_mail.proofs.Numbering.{none-numbered}
use Rattle.mcs_mail.proofs.late.Late.restart.Goals as goal

pub invariant_of-self : goal.invariant_of-self
invariant_of-self c = none-numbered _ _ _ (ap (λ (v : LateMail). v.mails) c.self.view_is ∙ c.requires) c.self.invariant
