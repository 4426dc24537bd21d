-- One stretch more.
use Rattle.std.proofs.Common.{◌++◌, take, ap, ap₂, sym, ◌∙◌}
use Rattle.mcs_origins.specs.Sets.{taken}
use Rattle.mcs_origins.specs.stored.Stretches.{all_of, flat}
use Rattle.mcs_origins.proofs.Lists.{flat-more}
use Rattle.mcs_origins.proofs.Places.{taken-append}
use Rattle.mcs_origins.proofs.stretches.all_taken.Goals as goal

pub loop-stretch-preserved : goal.loop-stretch-preserved
loop-stretch-preserved c =
    let xs = c.args.stretches.now in
    let i = c.loop-stretch.stretch-index in
    let x = c.stretch-item.result in
    c.in_ok-push_maybe.ensures ∙ ap₂ (λ a b. a ++ b) c.taken.ensures c.loop-stretch.invariant
    ∙ sym (taken-append c.args.taking (all_of x) (flat (take i xs)))
    ∙ ap (taken c.args.taking) (sym (flat-more xs i x c.loop-stretch-test.true c.stretch-item.is))
