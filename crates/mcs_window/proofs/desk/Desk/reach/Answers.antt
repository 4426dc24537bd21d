use Rattle.std.proofs.Common.{◌<◌, ℕ, get_or, sym, subst}
use Rattle.std.specs.Arc.{arc_value}
use Rattle.mcs_system.specs.System.{System}
use Rattle.mcs_laws.specs.Links.{Signals}
use Rattle.mcs_window.specs.Desk.{Table}
use Rattle.mcs_window.specs.stored.Reaches.{IsReach}
use Rattle.mcs_window.proofs.Reaching.{reach-said}
use Rattle.mcs_window.proofs.desk.Desk.reach.Goals as goal

pub returns : goal.returns
returns g c =
    let a = c.self.inside in
    let maker = c.maker.inside.0 in
    let home = c.home.inside.0 in
    let ticks = get_or c.index.result.now home 0 in
    let P : System → ℕ → ℕ → Type 0 = λ s m h. IsReach s m h (Signals s m h) ticks in
    let below : maker < (arc_value a.system).cores =
    subst (λ (t : Table). maker < t.system.cores) (sym c.self.view_is) (subst (λ m. m < c.args.self.now.system.cores) (sym c.maker.view_is) c.requires.maker) in
    let below_too : home < (arc_value a.system).cores =
    subst (λ (t : Table). home < t.system.cores) (sym c.self.view_is) (subst (λ h. h < c.args.self.now.system.cores) (sym c.home.view_is) c.requires.home) in
    subst (λ (t : Table). P t.system c.args.maker c.args.home) c.self.view_is
    (subst (λ m. P (arc_value a.system) m c.args.home) c.maker.view_is
    (subst (P (arc_value a.system) maker) c.home.view_is
    (reach-said a c.self.invariant maker home c.index.result.now below below_too c.index.ensures)))
