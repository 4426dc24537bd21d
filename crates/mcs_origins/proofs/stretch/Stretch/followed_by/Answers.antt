-- The two are one run.
use Rattle.std.proofs.Common.{◌≡◌, ◌⊎◌, sym, ◌∙◌, arith, rules}
use Rattle.std.proofs.lemmas.Bool.Decides.{nat_tests}
use Rattle.mcs_origins.proofs.Runs.{one-of-two}
use Rattle.mcs_origins.proofs.stretch.Stretch.followed_by.Goals as goal

pub returns-then-eq : goal.returns-then-eq
returns-then-eq c =
    let a = c.args.self.now in
    let b = c.args.later.now in
    let step = c.step_to-step.result in
    let places : a.places ≡ b.places = omega arith in
    let fits : (a.more ≡ 0) ⊎ (a.step ≡ step) = search rules in
    let same : c.at.result ≡ a.last = grind (arith, nat_tests) in
    one-of-two a b step places c.step_to-step.ensures fits (sym c.at.ensures ∙ same)
