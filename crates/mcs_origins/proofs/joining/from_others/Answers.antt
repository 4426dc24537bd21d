-- The top of the others comes first.
use Rattle.std.proofs.Common.{◌++◌, sym, ap, ◌∙◌, arith}
use Rattle.mcs_origins.specs.Sets.{join}
use Rattle.mcs_origins.specs.stored.Stretches.{all_of, left}
use Rattle.mcs_origins.proofs.Tops.{fewer, others-first}
use Rattle.mcs_origins.proofs.joining.from_others.Goals as goal

pub returns : goal.returns
returns c =
    let set = c.args.set.now in
    let others = c.args.others.now in
    let a = c.args.both.now.set in
    let b = c.args.both.now.others in
    let less = fewer (left others b) (left others c.below.result) b.top.last b.top.step b.top.places c.args.more c.below.ensures.left in
    record {
      joined = others-first set others a b c.args.more c.below.result c.below.ensures.left c.requires.set_some c.requires.later
          ∙ ap (λ piece. all_of piece ++ join (left set a) (left others c.below.result)) (sym c.top.ensures);
      set_within = c.requires.set_within;
      others_within = c.below.ensures.within;
      smaller = omega (arith, less);
    }
