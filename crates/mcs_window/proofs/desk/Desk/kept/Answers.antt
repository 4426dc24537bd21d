use Rattle.std.proofs.Common.{◌<◌, ◌∙◌, ap, arith}
use Rattle.std.specs.Arc.{arc_value}
use Rattle.mcs_window.specs.Desk.{Table}
use Rattle.mcs_window.proofs.Counting.{kept_of, kept-more, size_at}
use Rattle.mcs_window.proofs.desk.Desk.kept.Goals as goal

pub loop-core-preserved : goal.loop-core-preserved
loop-core-preserved g c =
    let a = c.self.inside in
    let k = c.loop-core.core in
    let known : k < (arc_value a.system).cores = (let same = ap (λ (t : Table). t.system.cores) c.self.view_is in let cores = c.cores-core-end.ensures in let test = c.loop-core-test.true in omega arith) in
    kept-more g.S.Collector.amount c.args.self.now k c.loop-core.kept c.size.result c.saturating_add-kept.result c.loop-core.invariant
    (c.size.ensures ∙ size_at g.S.Measured.size g.S.Collector.amount g.met.S.Collector.is_measured a c.self.invariant k c.index.result.now known c.index.ensures ∙ ap (λ t. kept_of g.S.Collector.amount t k) c.self.view_is) c.saturating_add-kept.ensures
