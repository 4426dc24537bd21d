use Rattle.std.proofs.Common.{◌≡◌, ◌≢◌, ◌==◌, ℕ, get_or, true, false, sym, ap, ◌∙◌, arith}
use Rattle.std.proofs.lemmas.Bool.Decides.{nat_tests}
use Rattle.std.specs.Arc.{arc_value}
use Rattle.mcs_report.specs.Places.{place_on}
use Rattle.mcs_report.proofs.Homes.{kept-here, kept-away, kept-past}
use Rattle.mcs_report.proofs.places.Places.place_on.Goals as goal

equal : (a b : ℕ) → (a == b) ≡ true → a ≡ b
equal a b e = grind (arith, nat_tests)

differ : (a b : ℕ) → (a == b) ≡ false → a ≢ b
differ a b e = grind (arith, nat_tests)

pub returns-then-eq : goal.returns-then-eq
returns-then-eq c =
    kept-here (arc_value c.self.inside.system) c.self.inside.homes.items c.args.core c.args.thread c.index.result.now c.self.invariant
    (omega (arith, c.if-thread-len.true, c.len.ensures, c.thread.view_is))
    (c.index.ensures ∙ ap (λ x. get_or c.self.inside.homes.items x c.index.result.now) c.thread.view_is)
    (equal _ _ (sym c.eq.ensures ∙ c.if-eq.true))
    ∙ ap (λ s. place_on s c.args.core c.args.thread) c.self.view_is

pub returns-else-eq : goal.returns-else-eq
returns-else-eq c =
    kept-away (arc_value c.self.inside.system) c.self.inside.homes.items c.args.core c.args.thread c.index.result.now c.self.invariant
    (omega (arith, c.if-thread-len.true, c.len.ensures, c.thread.view_is))
    (c.index.ensures ∙ ap (λ x. get_or c.self.inside.homes.items x c.index.result.now) c.thread.view_is)
    (differ _ _ (sym c.eq.ensures ∙ c.if-eq.false))
    ∙ ap (λ s. place_on s c.args.core c.args.thread) c.self.view_is

pub returns-else-thread-len : goal.returns-else-thread-len
returns-else-thread-len c =
    kept-past (arc_value c.self.inside.system) c.self.inside.homes.items c.args.core c.args.thread c.self.invariant
    (omega (arith, c.if-thread-len.false, c.len.ensures, c.thread.view_is))
    ∙ ap (λ s. place_on s c.args.core c.args.thread) c.self.view_is
