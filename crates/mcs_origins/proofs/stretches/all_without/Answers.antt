-- One stretch more.
use Rattle.std.proofs.Common.{◌++◌, take, ap, sym, ◌∙◌}
use Rattle.mcs_origins.specs.Sets.{without}
use Rattle.mcs_origins.specs.stored.Stretches.{all_of, flat}
use Rattle.mcs_origins.proofs.Left.{without-append}
use Rattle.mcs_origins.proofs.Lists.{flat-more}
use Rattle.mcs_origins.proofs.stretches.all_without.Goals as goal

pub loop-stretch-preserved : goal.loop-stretch-preserved
loop-stretch-preserved c =
    let answered = c.args.answered.now in
    let xs = c.args.stretches.now in
    let i = c.loop-stretch.stretch-index in
    let x = c.stretch-item.result in
    c.in_ok-push_without.ensures ∙ ap (λ l. without answered (all_of x) ++ l) c.loop-stretch.invariant
    ∙ sym (without-append answered (all_of x) (flat (take i xs)))
    ∙ ap (without answered) (sym (flat-more xs i x c.loop-stretch-test.true c.stretch-item.is))
