use Rattle.std.proofs.Common.{◌≡◌, ap}
use Rattle.mcs_control.specs.Context.{refills_shown}
use Rattle.mcs_control.specs.declared.view.ContextView.{ContextView}
use Rattle.mcs_ever_again.proofs.RefillDates.{regular-shown}
use Rattle.mcs_ever_again.proofs.image.context.ContextImage.new.Goals as goal

pub new-requires : goal.new-requires
new-requires c =
    let seen : c.in_ok-refills.field-0.refills ≡ refills_shown c.args.context.now.context.budget =
    ap (λ (view : ContextView). view.refills) c.in_ok-refills.ensures in
    let shown : c.into_vec.result.items ≡ refills_shown c.args.context.now.context.budget = cc in
    rw shown (regular-shown c.args.context.now.context.budget)
