use Rattle.std.proofs.Common.{◌∙◌, ap, length, sym}
use Rattle.mcs_mail.specs.stored.Numbers.{LateMail}
use Rattle.mcs_mail.proofs.Numbering.{held-count}
use Rattle.mcs_mail.proofs.late.Late.len.Goals as goal

pub returns : goal.returns
returns c = c.len.ensures ∙ c.self.inside.heap.data.ok.0 ∙ sym (held-count _) ∙ ap (λ (v : LateMail). length v.mails) c.self.view_is
