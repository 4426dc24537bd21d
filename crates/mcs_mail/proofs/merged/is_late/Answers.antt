use Rattle.std.proofs.Common.{◌<◌, ◌∙◌, ap, arith, refl, sym}
use Rattle.mcs_mail.specs.Box.{is_before}
use Rattle.mcs_mail.proofs.Merging.{last_or-back}
use Rattle.mcs_mail.proofs.merged.is_late.Goals as goal

pub returns-in-Some : goal.returns-in-Some
returns-in-Some c =
    let some : 0 < c.args.ring.now.len = c.in-Some.ensures.variant.0 refl in
    c.is_before.ensures ∙ ap (is_before c.args.mail.now) (sym (last_or-back c.args.mail.now c.in-Some.last.now c.args.ring.now.items _ (omega (arith, c.args.ring.now.ok.0)) c.in-Some.ensures.lookup))
