use Rattle.std.proofs.Common.{◌<◌, length, get_or, None, ◌∙◌, ap, sym, arith}
use Rattle.std.specs.Prelude.{option_map}
use Rattle.std.proofs.lemmas.List.{get_or_default}
use Rattle.mcs_ever.specs.Later.{later_context}
use Rattle.mcs_ever_again.proofs.Contexts.{contexts-many, contexts-later-at, contexts-all-later}
use Rattle.mcs_ever_again.proofs.Told.{all-within}
use Rattle.mcs_ever_again.proofs.image.context.context_lags.Goals as goal

pub returns-then-before-after : goal.returns-then-before-after
returns-then-before-after c = λ lags within same. grind (arith, c.if-before-after.true, contexts-many lags c.args.before.now c.args.after.now same)

pub returns-in_default : goal.returns-in_default
returns-in_default c = λ lags within same.
    let here : c.loop-i.i < length c.args.before.now = c.loop-i-test.true in
    let there : c.loop-i.i < length c.args.after.now = grind (arith, c.if-before-after.false) in
    c.in_default.ensures (lags c.loop-i.i) (within c.loop-i.i)
    (c.index-after-i.is
    ∙ get_or_default c.args.after.now c.loop-i.i c.index-after-i.result None there
    ∙ contexts-later-at lags c.args.before.now c.args.after.now same c.loop-i.i here
    ∙ ap (option_map (later_context (lags c.loop-i.i)))
    (get_or_default c.args.before.now c.loop-i.i None c.index-before-i.result here ∙ sym c.index-before-i.is))

pub returns : goal.returns
returns c = (
  all-within c.args.by c.loop-i.lags.items
      (λ k l. c.loop-i.invariant.within k (omega (arith, l, c.loop-i.invariant.many))),
  contexts-all-later (λ context. get_or c.loop-i.lags.items context c.args.by) c.args.before.now c.args.after.now (grind (arith, c.if-before-after.false))
      (λ k within. c.loop-i.invariant.later k (omega (arith, within, c.loop-i-test.false))),
)
