use Rattle.std.proofs.Common.{◌∙◌, subst, sym}
use Rattle.mcs_merge.specs.stored.Parts.{IsNextCore}
use Rattle.mcs_merge.proofs.Nexts.{next-core}
use Rattle.mcs_merge.proofs.merger.Merger.next_before.Goals as goal

pub returns-then-is_before-clause-next : goal.returns-then-is_before-clause-next
returns-then-is_before-clause-next g c =
    let first = g.P.Part.first in
    subst (λ cores. IsNextCore first cores c.args.until c.core.result) c.self.view_is
    (next-core first c.self.inside.cores.items c.self.inside.heads c.self.invariant c.first-first.result c.first-first.ensures.among c.first-first.ensures.least
    c.args.until c.core.result c.is_before.ensures.in_range (sym c.is_before.ensures.before ∙ c.if-is_before.true) c.core.ensures)
