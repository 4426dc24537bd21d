use Rattle.std.proofs.Common.{ap, arith, length, subst}
use Rattle.mcs_mail.specs.Box.{Content, IsOrdered}
use Rattle.mcs_mail.proofs.Merging.{length-put_all, ordered-put_all}
use Rattle.mcs_mail.proofs.merged.Merged.len.Goals as goal

pub returns-clause-count : goal.returns-clause-count
returns-clause-count c =
    omega (
      arith,
      c.len.ensures,
      c.len-2.ensures,
      c.self.inside.ring.ok.0,
      length-put_all c.self.inside.late.mails c.self.inside.ring.items,
      ap (λ (v : Content). length v.mails) c.self.view_is,
    )

pub returns-clause-in_order : goal.returns-clause-in_order
returns-clause-in_order c =
    let Ordered : Content → Type 0 = λ v. IsOrdered v.mails in
    subst Ordered c.self.view_is (ordered-put_all c.self.inside.late.mails c.self.inside.ring.items c.self.invariant.ring_ordered)
