use Rattle.std.proofs.Common.{◌≡◌, ℕ, ◌<◌, ◌∙◌, false, ap, sym, subst, rules}
use Rattle.std.specs.Prelude.{slice_index}
use Rattle.std.specs.Arc.{arc_value}
use Rattle.mcs_core.specs.State.{State}
use Rattle.mcs_window.specs.Progress.{Progress, clock_of}
use Rattle.mcs_stretch.specs.Stretch.{StandsAt}
use Rattle.mcs_window.proofs.Skips.{at-clocks}
use Rattle.mcs_window.proofs.cores.Cores.state.Goals as goal

pub returns : goal.returns
returns c =
    let a = c.self.inside in
    let k = c.core.inside.0 in
    let unspent : a.failed ≡ false = ap (λ (p : Progress). p.failed) c.self.view_is ∙ c.requires.whole in
    let known : k < (arc_value a.system).cores = search rules in
    let state = c.index.result.now in
    let P : State → Type 0 = StandsAt (arc_value a.system) k (slice_index a.clocks.items k) in
    let Q : Progress → Type 0 = λ p. StandsAt p.system k (clock_of p k) state in
    let R : ℕ → Type 0 = λ n. StandsAt c.args.self.now.system n (clock_of c.args.self.now n) state in
    subst R c.core.view_is (subst Q c.self.view_is (subst P (sym c.index.ensures) (at-clocks a c.self.invariant unspent k state known)))
