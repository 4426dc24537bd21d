-- No origins are no stretches.
use Rattle.std.proofs.Common.{◌≡◌, length, sym, ◌∙◌, arith, rules}
use Rattle.std.proofs.lemmas.Bool.Decides.{nat_tests}
use Rattle.mcs_origins.specs.stored.Stretches.{flat}
use Rattle.mcs_origins.proofs.Lists.{flat-none, none-flat}
use Rattle.mcs_origins.proofs.set.Set.is_empty.Goals as goal

pub returns-in-Many : goal.returns-in-Many
returns-in-Many c =
    let xs = c.in-Many.stretches.items in
    let was : flat xs ≡ c.args.self.now = search rules in (
      λ yes. let none : length xs ≡ 0 = grind (arith, nat_tests) in sym was ∙ none-flat xs none,
      λ none. let no : length xs ≡ 0 = flat-none xs (was ∙ none) in grind (arith, nat_tests),
    )
