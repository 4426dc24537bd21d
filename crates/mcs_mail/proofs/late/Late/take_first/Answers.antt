use Rattle.std.proofs.Common.{◌∙◌, ap, drop, slice_get, sym, List, Some}
use Rattle.mcs_mail.specs.declared.mail.Mail.{Mail}
use Rattle.mcs_mail.specs.stored.Numbers.{LateMail}
use Rattle.mcs_mail.proofs.Numbering.{popped-mails, popped-numbered}
use Rattle.mcs_mail.proofs.late.Late.take_first.Goals as goal

pub invariant_of-self-2 : goal.invariant_of-self-2
invariant_of-self-2 c =
    popped-numbered _ _ c.self.invariant c.in_ok-first.first _ c.in_ok-first.ensures.permutation (c.in_ok-first.ensures.heap_order c.self.invariant.order).0

pub returns-clause-taken : goal.returns-clause-taken
returns-clause-taken c =
    ap (λ (m : Mail). Some m) c.mail.ensures
    ∙ sym (ap (λ (ms : List Mail). slice_get ms 0) (popped-mails _ _ c.self.invariant c.in_ok-first.first _ c.in_ok-first.ensures.permutation (c.in_ok-first.ensures.below_top c.self.invariant.order)))
    ∙ ap (λ (v : LateMail). slice_get v.mails 0) c.self.view_is

pub returns-clause-left : goal.returns-clause-left
returns-clause-left c =
    sym (ap (λ (ms : List Mail). drop 1 ms) (popped-mails _ _ c.self.invariant c.in_ok-first.first _ c.in_ok-first.ensures.permutation (c.in_ok-first.ensures.below_top c.self.invariant.order)))
    ∙ ap (λ (v : LateMail). drop 1 v.mails) c.self.view_is
