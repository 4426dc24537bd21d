-- All are left.
use Rattle.std.proofs.Common.{◌<◌, length, refl, arith}
use Rattle.std.proofs.lemmas.Grind.{common_steps}
use Rattle.mcs_origins.proofs.Lists.{left-all}
use Rattle.mcs_origins.proofs.rests.rest_of.Goals as goal

pub returns-clause-left : goal.returns-clause-left
returns-clause-left c =
    let xs = c.args.stretches.now in
    let some : 0 < length xs = grind (arith, common_steps) in
    left-all xs (length xs) c.index-stretches-stretches.result some refl c.index-stretches-stretches.is
