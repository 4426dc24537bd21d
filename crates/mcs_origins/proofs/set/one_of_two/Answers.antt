-- One is later than the other, or both have the same origins.
use Rattle.std.proofs.Common.{◌≡◌, ◌-◌, ◌*◌, ◌<◌, ◌⊎◌, IfSome, List, sym, ap, ◌∙◌, subst, arith, rules}
use Rattle.std.proofs.lemmas.Bool.Decides.{nat_tests}
use Rattle.mcs_origins.specs.declared.mark.Mark.{Mark}
use Rattle.mcs_origins.specs.declared.stretch.Stretch.{Stretch}
use Rattle.mcs_origins.specs.stored.Stretches.{all_of, run}
use Rattle.mcs_origins.proofs.Tops.{join-alike, join-over}
use Rattle.mcs_origins.proofs.set.one_of_two.Goals as goal

pub returns-then-lt : goal.returns-then-lt
returns-then-lt c =
    let a = c.args.a.now in
    let b = c.args.b.now in
    let later : b.last < a.last - a.step * a.more = grind (arith, nat_tests) in
    subst (λ (l : List Mark). IfSome c.followed_by.result (λ (whole : Stretch). all_of whole ≡ l))
    (sym (join-over a (record { origin = b.last; places = b.places }) (run (b.last - b.step) b.step b.more b.places) later)) c.followed_by.ensures

pub returns-then-has_step : goal.returns-then-has_step
returns-then-has_step c =
    let a = c.args.a.now in
    let b = c.args.b.now in
    let last : a.last ≡ b.last = grind (arith, nat_tests) in
    let more : a.more ≡ b.more = omega arith in
    let step : (a.more ≡ 0) ⊎ (a.step ≡ b.step) = search rules in
    ap all_of c.put_at.ensures ∙ join-alike a b last more step
