-- The top of the set comes first.
use Rattle.std.proofs.Common.{◌++◌, sym, ap, ◌∙◌, arith}
use Rattle.mcs_origins.specs.Sets.{join}
use Rattle.mcs_origins.specs.stored.Stretches.{all_of, left}
use Rattle.mcs_origins.proofs.Tops.{fewer, set-first}
use Rattle.mcs_origins.proofs.joining.from_set.Goals as goal

pub returns : goal.returns
returns c =
    let set = c.args.set.now in
    let others = c.args.others.now in
    let a = c.args.both.now.set in
    let b = c.args.both.now.others in
    let less = fewer (left set a) (left set c.below.result) a.top.last a.top.step a.top.places c.args.more c.below.ensures.left in
    record {
      joined = set-first set others a b c.args.more c.below.result c.below.ensures.left c.requires.later
          ∙ ap (λ piece. all_of piece ++ join (left set c.below.result) (left others b)) (sym c.top.ensures);
      set_within = c.below.ensures.within;
      others_within = c.requires.others_within;
      smaller = omega (arith, less);
    }
