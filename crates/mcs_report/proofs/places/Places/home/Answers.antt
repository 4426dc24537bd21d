use Rattle.std.proofs.Common.{◌≡◌, ◌<◌, length, get_or, sym, subst, ap, ◌∙◌, arith}
use Rattle.std.specs.Arc.{arc_value}
use Rattle.mcs_report.proofs.Homes.{homes-length, homes-at}
use Rattle.mcs_report.specs.stored.Places.{home_in}
use Rattle.mcs_report.proofs.places.Places.home.Goals as goal

pub index-requires : goal.index-requires
index-requires c =
    let many : length c.self.inside.homes.items ≡ length c.args.self.now.threads =
    homes-length (arc_value c.self.inside.system) c.self.inside.homes.items c.self.invariant ∙ ap (λ s. length s.threads) c.self.view_is in
    omega (arith, many, c.thread.view_is)

pub returns : goal.returns
returns c =
    c.index.ensures
    ∙ ap (λ x. get_or c.self.inside.homes.items x c.index.result.now) c.thread.view_is
    ∙ homes-at (arc_value c.self.inside.system) c.self.inside.homes.items c.args.thread c.index.result.now c.self.invariant
    (subst (λ s. c.args.thread < length s.threads) (sym c.self.view_is) c.requires)
    ∙ ap (λ s. home_in s c.args.thread) c.self.view_is
