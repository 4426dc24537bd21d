use Rattle.std.proofs.Common.{◌≡◌, ◌∙◌, ◌+◌, ap, Some, None, rules, refl, arith}
use Rattle.mcs_load.specs.Script.{first_bare, no_bare_wait}
use Rattle.mcs_load.proofs.Bare.{first_bare_is}
use Rattle.mcs_load.proofs.script.no_bare_wait.Goals as goal

pub returns-in-Some : goal.returns-in-Some
unfolding no_bare_wait
returns-in-Some c =
    let first : first_bare c.args.firsts.now ≡ Some (c.in-Some.bare + 1) = first_bare_is c.args.firsts.now (Some c.in-Some.bare) c.in-Some.ensures ∙ ap Some (omega arith) in
    rw (first, c.item_fault.ensures) (search rules)

pub returns-in-None : goal.returns-in-None
unfolding no_bare_wait
returns-in-None c =
    let first : first_bare c.args.firsts.now ≡ None = first_bare_is c.args.firsts.now None c.in-None.ensures in
    rw first (search rules)
