use Rattle.std.proofs.Common.{◌≡◌, false, replicate, ap, sym, subst, refl, ◌∙◌, rules}
use Rattle.mcs_ever.specs.stored.Makers.{AreMakersUntil}
use Rattle.mcs_ever.proofs.Closing.{makers-none}
use Rattle.mcs_ever.proofs.closed.no_makers.Goals as goal

pub returns : goal.returns
returns c =
    let all : c.loop.counter ≡ c.args.system.now.cores = search rules in
    subst (AreMakersUntil c.args.system.now 0 0) (sym (c.loop.invariant ∙ ap (λ n. replicate n (replicate 64 false)) all))
    (makers-none c.args.system.now c.args.system.now.cores refl)
