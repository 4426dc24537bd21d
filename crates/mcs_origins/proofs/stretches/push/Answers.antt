-- The last stretch is made longer, or there is one stretch more.
use Rattle.std.proofs.Common.{◌≡◌, ◌-◌, ◌<◌, get_or, length, ap, ◌∙◌, arith, rules}
use Rattle.std.proofs.lemmas.Grind.{common_steps}
use Rattle.mcs_origins.specs.stored.Stretches.{all_of, flat}
use Rattle.mcs_origins.proofs.Lists.{flat-put}
use Rattle.mcs_origins.proofs.Runs.{flat-last}
use Rattle.mcs_origins.proofs.stretches.push.Goals as goal

pub returns-in-Some-clause-ok : goal.returns-in-Some-clause-ok
returns-in-Some-clause-ok c =
    let xs = c.args.all.now.items in
    let n = c.len-last.result - 1 in
    let x = c.index.result.now in
    let some : 0 < length xs = grind (arith, common_steps) in
    let place : n ≡ length xs - 1 = grind (arith, common_steps) in
    let is : x ≡ get_or xs n x = search rules in
    flat-put xs n x c.in-Some.whole (all_of c.args.later.now) some place is c.in-Some.ensures

pub returns-clause-ok : goal.returns-clause-ok
returns-clause-ok c = ap flat c.in_ok-push.ensures.items ∙ flat-last c.args.all.now.items c.args.later.now
