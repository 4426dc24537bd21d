use Rattle.std.proofs.Common.{◌≡◌, ◌∙◌, ap, sym, arith, rules}
use Rattle.std.specs.Arc.{arc_value}
use Rattle.mcs_system.specs.System.{System}
use Rattle.mcs_stretch.specs.Stretch.{rows_between}
use Rattle.mcs_window.specs.Pieces.{Work}
use Rattle.mcs_team.proofs.Told.{told-on}
use Rattle.mcs_team.proofs.telling.Telling.run.Goals as goal

pub invariant_of-telling : goal.invariant_of-telling
invariant_of-telling g c =
    let a = c.self.inside in
    let p = c.piece.inside in
    let w = c.args.piece in
    let system = g.B.Run.system in
    let core : p.core ≡ a.core = search rules in
    let first : p.first ≡ a.past = search rules in
    let same : arc_value p.system ≡ system = ap (λ (x : Work). x.system) c.piece.view_is ∙ c.requires in
    let order = c.self.invariant.0 in
    let on = c.piece.invariant.stretch.in_order in (
      omega arith,
      told-on g.S.Collector.holds system a.core p.core a.past p.first p.past (rows_between w.system w.core w.first w.past) a.told c.run_to.new.told core first a.first order on
          (ap (λ (x : Work). rows_between x.system x.core x.first x.past) (sym c.piece.view_is) ∙ ap (λ (s : System). rows_between s p.core p.first p.past) same)
          c.self.invariant.1 c.in-Ok.ensures.told,
    )
