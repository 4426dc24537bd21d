-- The first and the last of them say what all do.
use Rattle.std.proofs.Common.{◌≡◌, ◌+◌, sym, ap, ◌∙◌, arith, rules}
use Rattle.mcs_origins.proofs.Shifted.{top-later}
use Rattle.mcs_origins.proofs.later.is_top_later.Goals as goal

pub returns : goal.returns
returns c = λ yes.
    let before = c.args.before.now in
    let after = c.args.after.now in
    let places : before.places ≡ after.places = omega arith in
    let last : after.last ≡ before.last + c.args.by = search rules in
    let first = sym c.at-2.ensures ∙ c.is_tick_later-2.ensures.0 yes ∙ ap (λ x. x + c.args.by) c.at.ensures in
    top-later before after c.args.by c.args.more places c.requires last first
