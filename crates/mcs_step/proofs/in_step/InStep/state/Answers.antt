use Rattle.std.proofs.Common.{◌≡◌, ℕ, ◌<◌, false, sym, subst, rules}
use Rattle.std.specs.Prelude.{slice_index}
use Rattle.std.specs.Arc.{arc_value}
use Rattle.mcs_stretch.specs.Stretch.{StandsAt}
use Rattle.mcs_step.specs.Steps.{Steps}
use Rattle.mcs_step.proofs.Passing.{state-here}
use Rattle.mcs_step.proofs.in_step.InStep.state.Goals as goal

pub returns : goal.returns
returns c =
    let a = c.self.inside in
    let k = c.core.inside.0 in
    let going : a.failed ≡ false = (let P : Steps → Type 0 = λ steps. steps.failed ≡ false in subst P (sym c.self.view_is) c.requires.going) in
    let known : k < (arc_value a.system).cores = search rules in
    let state = c.index.result.now in
    let Q : Steps → Type 0 = λ steps. StandsAt steps.system k (slice_index steps.clocks k) state in
    let R : ℕ → Type 0 = λ n. StandsAt c.args.self.now.system n (slice_index c.args.self.now.clocks n) state in
    subst R c.core.view_is (subst Q c.self.view_is (state-here a c.self.invariant going k state known c.index.ensures))
