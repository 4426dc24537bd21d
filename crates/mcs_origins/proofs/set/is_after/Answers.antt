-- The stretch is later than the last of the others, or there are none.
use Rattle.std.proofs.Common.{◌≡◌, ◌+◌, ◌-◌, ◌*◌, ◌<◌, ◌++◌, length, sym, ap, ◌∙◌, arith, append-nil}
use Rattle.std.proofs.lemmas.Bool.Decides.{nat_tests}
use Rattle.std.proofs.lemmas.Grind.{common_steps}
use Rattle.mcs_origins.specs.Sets.{join}
use Rattle.mcs_origins.specs.stored.Stretches.{all_of}
use Rattle.mcs_origins.proofs.Joins.{join-none}
use Rattle.mcs_origins.proofs.Lists.{none-flat}
use Rattle.mcs_origins.proofs.Tops.{join-after}
use Rattle.mcs_origins.proofs.set.is_after.Goals as goal

pub returns : goal.returns
returns c = λ yes.
    let a = c.args.stretch.now in
    let xs = c.args.others.now in
    let x = c.index-others-others.result in
    let many : length xs ≡ (length xs - 1) + 1 = grind (arith, common_steps) in
    let later : x.last < a.last - a.step * a.more = grind (arith, nat_tests, yes) in
    join-after a x xs (length xs - 1) many c.index-others-others.is later

pub returns-then-is_empty : goal.returns-then-is_empty
returns-then-is_empty c = λ yes.
    let a = all_of c.args.stretch.now in
    let xs = c.args.others.now in
    let no : length xs ≡ 0 = grind (arith, common_steps) in
    let none = none-flat xs no in
    ap (join a) none ∙ join-none a ∙ sym (ap (λ l. a ++ l) none ∙ append-nil a)
