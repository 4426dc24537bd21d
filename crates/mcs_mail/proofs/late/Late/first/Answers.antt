use Rattle.std.proofs.Common.{◌∙◌, ap, arith, refl, slice_get, sym, Some}
use Rattle.mcs_mail.specs.declared.mail.Mail.{Mail}
use Rattle.mcs_mail.specs.stored.Numbers.{LateMail}
use Rattle.mcs_mail.proofs.Numbering.{first-top}
use Rattle.mcs_mail.proofs.late.Late.first.Goals as goal

pub returns : goal.returns
returns c =
    ap (λ (m : Mail). Some m) c.mail.ensures
    ∙ sym (first-top _ _ c.self.invariant c.in_ok-first.first.now (omega (arith, c.in_ok-first.ensures.variant.0 refl)) c.in_ok-first.ensures.lookup (c.in_ok-first.ensures.greatest c.self.invariant.order))
    ∙ ap (λ (v : LateMail). slice_get v.mails 0) c.self.view_is
