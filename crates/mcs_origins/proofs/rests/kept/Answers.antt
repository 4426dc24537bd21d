-- The copy is what is left.
use Rattle.std.proofs.Common.{◌≡◌, ◌-◌, ◌<◌, ◌++◌, ◌∷◌, [], take, arith}
use Rattle.std.proofs.lemmas.Grind.{common_steps}
use Rattle.mcs_origins.proofs.Lists.{left-copied}
use Rattle.mcs_origins.proofs.rests.kept.Goals as goal

pub returns : goal.returns
returns c =
    let xs = c.args.stretches.now in
    let rest = c.args.rest.now in
    let some : 0 < rest.many = omega arith in
    let is : c.push.new.self.items ≡ take (rest.many - 1) xs ++ rest.top ∷ [] = grind (arith, common_steps) in
    left-copied xs c.push.new.self.items rest.many rest.top some is
