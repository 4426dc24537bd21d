use Rattle.std.proofs.Common.{◌∙◌, ap}
use Rattle.mcs_mail.specs.Box.{put}
use Rattle.mcs_mail.specs.stored.Numbers.{LateMail}
use Rattle.mcs_mail.proofs.Numbering.{pushed-mails, pushed-numbered}
use Rattle.mcs_mail.proofs.late.Late.put.Goals as goal

pub invariant_of-self : goal.invariant_of-self
invariant_of-self c = pushed-numbered _ _ c.self.invariant c.args.mail _ _ c.new-numbered.ensures c.in-Ok.ensures.permutation (c.in-Ok.ensures.heap_order c.self.invariant.order)

pub returns-in-Ok-clause-ok : goal.returns-in-Ok-clause-ok
returns-in-Ok-clause-ok c =
    pushed-mails _ _ c.self.invariant c.args.mail _ _ c.new-numbered.ensures c.in-Ok.ensures.permutation ∙ ap (λ (v : LateMail). put c.args.mail v.mails) c.self.view_is
