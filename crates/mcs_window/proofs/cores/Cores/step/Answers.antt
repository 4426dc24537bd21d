use Rattle.std.proofs.Common.{◌≡◌, ◌+◌, ◌<◌, ◌∙◌, ap, length, subst, rules}
use Rattle.std.specs.Prelude.{slice_index}
use Rattle.std.proofs.lemmas.List.{get_or_default}
use Rattle.mcs_window.specs.Progress.{Progress, clock_of}
use Rattle.mcs_window.proofs.Reaches.{none-behind}
use Rattle.mcs_window.proofs.cores.Cores.step.Goals as goal

pub advance-requires-clause-reached : goal.advance-requires-clause-reached
advance-requires-clause-reached c =
    let many = c.self.invariant.kept.clocks_of in
    let there : c.core.inside.0 < length c.self.inside.clocks.items = search rules in
    let at : c.index.result.now ≡ slice_index c.self.inside.clocks.items c.core.inside.0 =
    c.index.ensures ∙ get_or_default c.self.inside.clocks.items c.core.inside.0 c.index.result.now 0 there in
    let clock : c.index.result.now ≡ clock_of c.args.self.now c.args.core =
    subst (λ k. c.index.result.now ≡ clock_of c.args.self.now k) c.core.view_is
    (subst (λ (p : Progress). c.index.result.now ≡ clock_of p c.core.inside.0) c.self.view_is at) in
    let next : c.unwrap-to.result ≡ c.index.result.now + 1 = search rules in
    let to : c.unwrap-to.result ≡ clock_of c.args.self.now c.args.core + 1 = next ∙ ap (λ n. n + 1) clock in
    none-behind c.args.self.now c.args.core c.unwrap-to.result c.in_default.ensures.none to
