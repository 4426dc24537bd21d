-- One stretch more that has none.
use Rattle.std.proofs.Common.{◌≡◌, ap, ap₂, sym, ◌∙◌, ◌++◌, take}
use Rattle.mcs_origins.specs.Sets.{without}
use Rattle.mcs_origins.specs.stored.Stretches.{all_of, flat}
use Rattle.mcs_origins.proofs.Left.{without-append}
use Rattle.mcs_origins.proofs.Lists.{flat-more}
use Rattle.mcs_origins.proofs.stretches.may_have.Goals as goal

pub loop-stretch-preserved : goal.loop-stretch-preserved
loop-stretch-preserved c =
    let xs = c.args.stretches.now in
    let i = c.loop-stretch.stretch-index in
    let x = c.stretch-item.result in
    let more = flat-more xs i x c.loop-stretch-test.true c.stretch-item.is in
    let here : without c.args.answered.now (all_of x) ≡ all_of x = c.may_have.ensures c.if-may_have.false in
    let before : without c.args.answered.now (flat (take i xs)) ≡ flat (take i xs) = c.loop-stretch.invariant in
    ap (without c.args.answered.now) more ∙ without-append c.args.answered.now (all_of x) (flat (take i xs)) ∙ ap₂ (λ a b. a ++ b) here before ∙ sym more
