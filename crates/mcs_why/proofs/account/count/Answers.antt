use Rattle.std.proofs.Common.{◌≡◌, Some, get_or, map, refl, sym, ap, ◌∙◌}
use Rattle.std.specs.List.{range_with_len}
use Rattle.mcs_why.proofs.Ranges.{with_more, counts-at, counts-past}
use Rattle.mcs_why.proofs.account.count.Goals as goal

pub returns-then-thread-ran : goal.returns-then-thread-ran
returns-then-thread-ran c before threads e small =
    let at : c.args.runner ≡ Some c.thread.inside.0 = c.in-Some.is ∙ ap Some (sym c.thread.view_is) in
    counts-at before threads c.thread.inside.0 c.args.ticks 0 (get_or c.args.ran.now c.thread.inside.0 0) c.saturating_add.result c.args.ran.now e
    c.if-thread-ran.true small refl c.saturating_add.ensures
    ∙ ap (λ runner. map (with_more runner c.args.ticks before) (range_with_len 0 threads)) (sym at)

pub returns-else-thread-ran : goal.returns-else-thread-ran
returns-else-thread-ran c before threads e small =
    let at : c.args.runner ≡ Some c.thread.inside.0 = c.in-Some.is ∙ ap Some (sym c.thread.view_is) in
    counts-past before threads c.thread.inside.0 c.args.ticks c.args.ran.now e c.if-thread-ran.false
    ∙ ap (λ runner. map (with_more runner c.args.ticks before) (range_with_len 0 threads)) (sym at)
