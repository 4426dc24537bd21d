use Rattle.std.proofs.Common.{fold, take, ◌∙◌}
use Rattle.mcs_hints.specs.Handlers.{with_item}
use Rattle.mcs_hints.proofs.Numbers.{same_numbers}
use Rattle.mcs_hints.proofs.Taken.{item_more}
use Rattle.mcs_hints.proofs.handlers.take_items.Goals as goal

pub loop-item-preserved : goal.loop-item-preserved
loop-item-preserved c notes so_far is =
    let n = c.loop-item.item-index in
    let badges = c.args.badges in
    c.take_item.ensures notes (λ note. fold (with_item note badges) (so_far note) (take n c.args.items.now)) (c.loop-item.invariant notes so_far is)
    ∙ same_numbers _ _ notes 0 (λ note. item_more note badges (so_far note) c.args.items.now n c.item-item.result c.loop-item-test.true c.item-item.is)
