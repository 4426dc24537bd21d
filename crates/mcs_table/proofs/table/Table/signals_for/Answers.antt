use Rattle.std.proofs.Common.{◌≡◌, ◌≤◌, Some, length, sym, ap, ◌∙◌, arith}
use Rattle.mcs_table.specs.Signals.{lost_by, merged_by, times_at}
use Rattle.mcs_table.specs.Table.{Table}
use Rattle.mcs_table.proofs.Ranges.{counted_at, length-counts}
use Rattle.mcs_table.proofs.Kept.{signals_kept, signals_unknown}
use Rattle.mcs_table.proofs.table.Table.signals_for.Goals.{else-note-len-via-then-note-len+else-note-len-2, else-note-len-via-else-note-len}
use Rattle.mcs_table.proofs.table.Table.signals_for.Goals as goal

pub returns-then-note-len-2 : goal.returns-then-note-len-2
returns-then-note-len-2 c system horizon past e =
    let at : c.args.waits ≡ Some c.note.inside.0 = c.in_ok-note.was ∙ ap Some (sym c.note.view_is) in
    let lost =
    counted_at (λ note. times_at (lost_by system) note past) (length system.notes) c.note.inside.0 c.index.result.now c.index.result.now
    c.self.inside.lost.items (ap (λ (table : Table). table.lost) (c.self.view_is ∙ e))
    (omega (arith, c.if-note-len.true, c.len.ensures)) c.index.ensures
    in
    let merged =
    counted_at (λ note. times_at (merged_by system) note past) (length system.notes) c.note.inside.0 c.index-then-note-len-2.result.now
    c.index-then-note-len-2.result.now c.self.inside.merged.items (ap (λ (table : Table). table.merged) (c.self.view_is ∙ e))
    (omega (arith, c.if-note-len-2.true, c.len-then-note-len.ensures)) c.index-then-note-len-2.ensures
    in
    signals_kept system c.note.inside.0 c.index.result.now c.index-then-note-len-2.result.now c.args.waits past at lost.0 lost.1 merged.1

pub returns-else-note-len : goal.returns-else-note-len
returns-else-note-len c system horizon past e =
    let at : c.args.waits ≡ Some c.note.inside.0 = c.in_ok-note.was ∙ ap Some (sym c.note.view_is) in
    let lost =
    length-counts (λ note. times_at (lost_by system) note past) (length system.notes) c.self.inside.lost.items
    (ap (λ (table : Table). table.lost) (c.self.view_is ∙ e))
    in
    let merged =
    length-counts (λ note. times_at (merged_by system) note past) (length system.notes) c.self.inside.merged.items
    (ap (λ (table : Table). table.merged) (c.self.view_is ∙ e))
    in
    let not : length system.notes ≤ c.note.inside.0 =
    elim c.else-note-len.branch [
      | else-note-len-via-then-note-len+else-note-len-2 w ↦ omega (arith, w.if-note-len-2.false, w.len-then-note-len.ensures, merged)
      | else-note-len-via-else-note-len w ↦ omega (arith, w.if-note-len.false, c.len.ensures, lost)
    ]
    in
    signals_unknown system c.note.inside.0 c.args.waits past at not
