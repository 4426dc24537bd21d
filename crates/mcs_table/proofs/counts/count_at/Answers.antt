use Rattle.std.proofs.Common.{◌≡◌, Some, get_or, refl, sym, ap, ◌∙◌}
use Rattle.mcs_table.specs.Table.{counts_of}
use Rattle.mcs_table.proofs.Ranges.{more, counts-at, counts-past}
use Rattle.mcs_table.proofs.counts.count_at.Goals as goal

pub returns-then-note-counts : goal.returns-then-note-counts
returns-then-note-counts c before notes e =
    let at : c.args.place ≡ Some c.note.inside.0 = c.in-Some.is ∙ ap Some (sym c.note.view_is) in
    counts-at before notes c.note.inside.0 0 (get_or c.args.counts.now c.note.inside.0 0) c.saturating_add.result c.args.counts.now e
    c.if-note-counts.true refl c.saturating_add.ensures
    ∙ ap (λ place. counts_of (more place before) notes) (sym at)

pub returns-else-note-counts : goal.returns-else-note-counts
returns-else-note-counts c before notes e =
    let at : c.args.place ≡ Some c.note.inside.0 = c.in-Some.is ∙ ap Some (sym c.note.view_is) in
    counts-past before notes c.note.inside.0 c.args.counts.now e c.if-note-counts.false
    ∙ ap (λ place. counts_of (more place before) notes) (sym at)
