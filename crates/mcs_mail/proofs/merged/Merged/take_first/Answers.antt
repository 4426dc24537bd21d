use Rattle.std.proofs.Common.{◌∙◌, ap, drop, slice_get, sym}
use Rattle.mcs_mail.specs.Box.{Content, put_all}
use Rattle.mcs_mail.proofs.Merging.{mails-late_first, mails-ring_first, popped-front}
use Rattle.mcs_mail.proofs.merged.Merged.take_first.Goals as goal

pub invariant_of-self-else-late_is_first : goal.invariant_of-self-else-late_is_first
invariant_of-self-else-late_is_first c =
    rw (c.pop_front.ensures.rest, c.pop_front.ensures.capacity) (mails-ring_first _ _ _ c.self.invariant (sym c.late_is_first.ensures ∙ c.if-late_is_first.false)).2

pub returns-then-late_is_first-clause-taken : goal.returns-then-late_is_first-clause-taken
returns-then-late_is_first-clause-taken c =
    c.take_first.ensures.taken ∙ (mails-late_first _ _ _ c.self.invariant (sym c.late_is_first.ensures ∙ c.if-late_is_first.true)).0 ∙ ap (λ (v : Content). slice_get v.mails 0) c.self.view_is

pub returns-then-late_is_first-clause-left : goal.returns-then-late_is_first-clause-left
returns-then-late_is_first-clause-left c =
    ap (λ late. put_all late c.self.inside.ring.items) c.take_first.ensures.left
    ∙ (mails-late_first _ _ _ c.self.invariant (sym c.late_is_first.ensures ∙ c.if-late_is_first.true)).1
    ∙ ap (λ (v : Content). drop 1 v.mails) c.self.view_is

pub returns-else-late_is_first-clause-taken : goal.returns-else-late_is_first-clause-taken
returns-else-late_is_first-clause-taken c =
    popped-front _ _ _ _ c.self.inside.ring.ok.0 c.pop_front.ensures.items c.pop_front.ensures.variant.1 ∙ (mails-ring_first _ _ _ c.self.invariant (sym c.late_is_first.ensures ∙ c.if-late_is_first.false)).0 ∙ ap (λ (v : Content). slice_get v.mails 0) c.self.view_is

pub returns-else-late_is_first-clause-left : goal.returns-else-late_is_first-clause-left
returns-else-late_is_first-clause-left c =
    ap (put_all c.self.inside.late.mails) c.pop_front.ensures.rest
    ∙ (mails-ring_first _ _ _ c.self.invariant (sym c.late_is_first.ensures ∙ c.if-late_is_first.false)).1
    ∙ ap (λ (v : Content). drop 1 v.mails) c.self.view_is
