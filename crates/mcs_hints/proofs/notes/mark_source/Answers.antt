use Rattle.std.proofs.Common.{false, sym, ◌∙◌}
use Rattle.mcs_hints.proofs.Marks.{marks_posted, marks_unposted}
use Rattle.mcs_hints.proofs.notes.mark_source.Goals as goal

pub returns-then-note-marks : goal.returns-then-note-marks
returns-then-note-marks c notes items sources source e same =
    marks_posted c.note.inside.0 notes items sources source c.args.marks.now c.signal.new.self (record { waits = false; signals = false }) e
    (same ∙ sym c.note.view_is) (λ h. c.signal.ensures)

pub returns-else-note-marks : goal.returns-else-note-marks
returns-else-note-marks c notes items sources source e same =
    marks_unposted c.note.inside.0 notes items sources source c.args.marks.now e (same ∙ sym c.note.view_is) c.if-note-marks.false
