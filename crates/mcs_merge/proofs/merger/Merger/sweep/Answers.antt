use Rattle.std.proofs.Common.{◌≡◌, ◌∙◌, ◌++◌, drop, length, subst, sym, take}
use Rattle.mcs_merge.specs.stored.Parts.{ArePouring}
use Rattle.mcs_merge.proofs.Helds.{written_whole}
use Rattle.mcs_merge.proofs.merger.Merger.sweep.Goals as goal

pub returns-clause-goes_on : goal.returns-clause-goes_on
returns-clause-goes_on g c =
    let takes = g.P.Out.Sink.takes in
    let holds = g.P.Part.holds in
    let old = c.self.inside.cores.items in
    let new = c.pour_sweep-poured.new.cores in
    let before = c.args.out.now in
    let after = c.pour_sweep-poured.new.out in
    let slice = c.as_mut_slice-cores.result.now in
    let lies : slice ≡ c.args.self.now = c.as_mut_slice-cores.ensures.value ∙ c.self.view_is in
    let whole : take c.self.inside.cores.len (new ++ drop (length new) old) ≡ new =
    written_whole c.self.inside.cores.len new (drop (length new) old) (c.pour_sweep-poured.ensures.long ∙ c.as_mut_slice-cores.ensures.len)
    in
    subst (λ cores. ArePouring takes holds c.args.until before after c.args.self.now cores) (sym whole)
    (subst (λ cores. ArePouring takes holds c.args.until before after cores new) lies (c.in_ok-poured.ensures.goes_on c.args.until c.sweep_of-sweep.ensures.end))
