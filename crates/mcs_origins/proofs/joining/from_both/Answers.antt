-- The tops of both come first.
use Rattle.std.proofs.Common.{◌++◌, sym, ap, ◌∙◌, arith}
use Rattle.std.specs.Prelude.{bit_or}
use Rattle.mcs_origins.specs.declared.stretch.Stretch.{Stretch}
use Rattle.mcs_origins.specs.Sets.{join}
use Rattle.mcs_origins.specs.stored.Stretches.{all_of, left}
use Rattle.mcs_origins.proofs.Tops.{both-first, fewer}
use Rattle.mcs_origins.proofs.joining.from_both.Goals as goal

pub returns : goal.returns
returns c =
    let set = c.args.set.now in
    let others = c.args.others.now in
    let a = c.args.both.now.set in
    let b = c.args.both.now.others in
    let a' = c.below.result in
    let b' = c.below-2.result in
    let less = fewer (left set a) (left set a') a.top.last a.top.step a.top.places c.args.more c.below.ensures.left in
    let also = fewer (left others b) (left others b') b.top.last b.top.step b.top.places c.args.more c.below-2.ensures.left in
    let places = bit_or a.top.places b.top.places in
    let piece = c.put_at.ensures ∙ ap (λ (s : Stretch). record s { places = places }) c.top.ensures in
    record {
      joined = both-first set others a b c.args.more a' b' c.below.ensures.left c.below-2.ensures.left c.requires.last c.requires.step
          ∙ ap (λ piece. all_of piece ++ join (left set a') (left others b')) (sym piece);
      set_within = c.below.ensures.within;
      others_within = c.below-2.ensures.within;
      smaller = omega (arith, less, also);
    }
