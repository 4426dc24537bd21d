use Rattle.std.proofs.Common.{◌≡◌, None, replicate, ap, ◌∙◌, rules}
use Rattle.mcs_ever_told.proofs.outlook.tell.nothing_told.Goals as goal

pub returns : goal.returns
returns c =
    let all : c.loop.counter ≡ c.args.sets = search rules in
    c.loop.invariant ∙ ap (λ n. replicate n None) all
