use Rattle.std.proofs.Common.{◌≡◌, [], ◌∙◌, ap, sym, arith, rules}
use Rattle.mcs_stretch.specs.Stretch.{rows_between}
use Rattle.mcs_team.proofs.Told.{told-silent}
use Rattle.mcs_team.proofs.telling.Telling.pass.Goals as goal

pub invariant_of-result : goal.invariant_of-result
invariant_of-result g c =
    let a = c.self.inside in
    let system = g.B.Run.system in
    let core : c.args.core ≡ a.core = search rules in
    let from : c.args.from ≡ a.past = search rules in
    let silent : rows_between system a.core a.past c.args.past ≡ [] =
    ap (λ n. rows_between system n a.past c.args.past) (sym core)
    ∙ ap (λ n. rows_between system c.args.core n c.args.past) (sym from)
    ∙ c.requires.silent in
    let order = c.self.invariant.0 in
    let on = c.requires.in_order in (
      omega arith,
      told-silent g.S.Collector.holds system a.core a.first a.past c.args.past a.told order (omega arith) silent c.self.invariant.1,
    )
