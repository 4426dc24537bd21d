-- The whole top is taken.
use Rattle.std.proofs.Common.{◌≡◌, arith}
use Rattle.mcs_origins.proofs.Tops.{below-whole}
use Rattle.mcs_origins.proofs.rests.below.Goals as goal

pub returns-then-rest-gt1-clause-left : goal.returns-then-rest-gt1-clause-left
returns-then-rest-gt1-clause-left c =
    let rest = c.args.rest.now in
    let whole : c.args.more ≡ rest.top.more = omega arith in
    below-whole c.args.stretches.now rest.many c.args.more rest.top c.index-stretches-rest.result c.if-rest-gt1.true c.requires.within whole c.index-stretches-rest.is
