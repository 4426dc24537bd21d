-- One piece more.
use Rattle.std.proofs.Common.{◌≤◌, ◌++◌, drop, length, reverse, ap, sym, ◌∙◌, arith, append_assoc}
use Rattle.mcs_origins.specs.stored.Stretches.{all_of, flat}
use Rattle.mcs_origins.proofs.Lists.{flat-fewer}
use Rattle.mcs_origins.proofs.joining.push_all.Goals as goal

pub loop-i-preserved : goal.loop-i-preserved
loop-i-preserved c =
    let xs = c.args.pieces.now in
    let i = c.loop-i.i in
    let x = c.index-pieces-i.result in
    let old = flat c.args.all.now.items in
    let within : i ≤ length xs = omega arith in
    c.in_ok-push.ensures.ok ∙ ap (λ l. all_of x ++ l) c.loop-i.invariant ∙ sym (append_assoc (all_of x) (flat (reverse (drop i xs))) old)
    ∙ ap (λ l. l ++ old) (sym (flat-fewer xs i x c.loop-i-test.true within c.index-pieces-i.is))
