use Rattle.std.proofs.Common.{◌∙◌, ap, sym, arith, get_or, option_map, Some}
use Rattle.std.proofs.lemmas.List.{get_or_default}
use Rattle.mcs_release.specs.Release.{dated}
use Rattle.mcs_release.proofs.Stored.{get-stored, get-within}
use Rattle.mcs_release.proofs.places.Places.get.Goals as goal

pub overflow_add-self-inside-2 : goal.overflow_add-self-inside-2
overflow_add-self-inside-2 c =
    omega (arith, get-within _ _ _ c.self.invariant _ c.self.view_is c.args.place c.requires, c.self.invariant.wide, c.self.invariant.few)

pub index-requires : goal.index-requires
index-requires c =
    omega (arith, get-within _ _ _ c.self.invariant _ c.self.view_is c.args.place c.requires, c.self.invariant.wide, c.self.invariant.tree.size)

pub returns-in_err-date : goal.returns-in_err-date
returns-in_err-date c =
    c.from_residual.ensures
    ∙ sym (
    get-stored _ _ _ c.self.invariant _ c.self.view_is c.args.place c.requires _ _ c.index.ensures c.date_of.ensures
    ∙ ap (option_map (dated (get_or c.self.inside.threads.items c.args.place 0))) (c.in_err-date.was)
    )

pub index-requires-2 : goal.index-requires-2
index-requires-2 c = omega (arith, get-within _ _ _ c.self.invariant _ c.self.view_is c.args.place c.requires)

pub returns : goal.returns
returns c =
    ap (λ thread. Some (dated thread c.in_ok-date.date)) (
    c.index-2.ensures ∙ get_or_default _ _ _ 0 (get-within _ _ _ c.self.invariant _ c.self.view_is c.args.place c.requires)
    )
    ∙ sym (
    get-stored _ _ _ c.self.invariant _ c.self.view_is c.args.place c.requires _ _ c.index.ensures c.date_of.ensures
    ∙ ap (option_map (dated (get_or c.self.inside.threads.items c.args.place 0))) (c.in_ok-date.was)
    )
