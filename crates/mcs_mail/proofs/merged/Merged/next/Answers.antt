use Rattle.std.proofs.Common.{◌∙◌, ap, slice_get, subst}
use Rattle.mcs_mail.specs.Box.{Content, first_arrival, IsOrdered}
use Rattle.mcs_mail.specs.stored.Late.{sooner_of}
use Rattle.mcs_mail.proofs.Merging.{copied-front, ordered-put_all, sooner-merged}
use Rattle.mcs_mail.proofs.merged.Merged.next.Goals as goal

pub returns-clause-first : goal.returns-clause-first
returns-clause-first c =
    let front = c.copied.ensures ∙ copied-front _ _ _ c.self.inside.ring.ok.0 c.front.ensures.variant c.front.ensures.lookup in
    c.sooner.ensures
    ∙ ap (λ o. sooner_of o c.first.result) front
    ∙ ap (sooner_of (slice_get c.self.inside.ring.items 0)) c.first.ensures
    ∙ sooner-merged _ _ _ c.self.invariant
    ∙ ap (λ (v : Content). first_arrival v.mails) c.self.view_is

pub returns-clause-in_order : goal.returns-clause-in_order
returns-clause-in_order c =
    let Ordered : Content → Type 0 = λ v. IsOrdered v.mails in
    subst Ordered c.self.view_is (ordered-put_all c.self.inside.late.mails c.self.inside.ring.items c.self.invariant.ring_ordered)
