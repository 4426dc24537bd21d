use Rattle.std.proofs.Common.{◌≡◌, map, sym, ap, ◌∙◌}
use Rattle.mcs_script.specs.declared.item.Item.TheVariants.{Wait}
use Rattle.mcs_hints.specs.Numbers.{numbers}
use Rattle.mcs_hints.specs.Handlers.{with_item}
use Rattle.mcs_hints.proofs.Taken.{with_wait, without_wait}
use Rattle.mcs_hints.proofs.handlers.take_item.Goals as goal

pub returns-then-note-taken : goal.returns-then-note-taken
returns-then-note-taken c notes so_far is =
    let item : Wait c.note.inside.0 ≡ c.args.item = ap Wait c.note.view_is ∙ sym c.in-Wait.is in
    with_wait so_far c.note.inside.0 notes c.args.badges c.args.taken.now is
    ∙ ap (λ item. map (λ note. with_item note c.args.badges (so_far note) item) (numbers notes)) item

pub returns-else-note-taken : goal.returns-else-note-taken
returns-else-note-taken c notes so_far is =
    let item : Wait c.note.inside.0 ≡ c.args.item = ap Wait c.note.view_is ∙ sym c.in-Wait.is in
    without_wait so_far c.note.inside.0 notes c.args.badges c.args.taken.now is c.if-note-taken.false
    ∙ ap (λ item. map (λ note. with_item note c.args.badges (so_far note) item) (numbers notes)) item
