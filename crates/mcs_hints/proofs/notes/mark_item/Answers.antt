use Rattle.std.proofs.Common.{◌≡◌, false, [], ◌∷◌, ◌++◌, sym, ap, ◌∙◌}
use Rattle.mcs_script.specs.declared.item.Item.TheVariants.{Signal, Wait}
use Rattle.mcs_hints.specs.stored.Marks.{marks_of}
use Rattle.mcs_hints.proofs.Marks.{marks_waited, marks_signalled, marks_unwaited, marks_unsignalled}
use Rattle.mcs_hints.proofs.notes.mark_item.Goals as goal

pub returns-then-note-marks : goal.returns-then-note-marks
returns-then-note-marks c notes items e =
    let item : Wait c.note.inside.0 ≡ c.args.item = ap Wait c.note.view_is ∙ sym c.in-Wait.is in
    marks_waited c.note.inside.0 notes items c.args.marks.now c.wait.new.self (record { waits = false; signals = false }) e (λ h. c.wait.ensures)
    ∙ ap (λ item. marks_of notes (items ++ item ∷ [])) item

pub returns-else-note-marks : goal.returns-else-note-marks
returns-else-note-marks c notes items e =
    let item : Wait c.note.inside.0 ≡ c.args.item = ap Wait c.note.view_is ∙ sym c.in-Wait.is in
    marks_unwaited c.note.inside.0 notes items c.args.marks.now e c.if-note-marks.false
    ∙ ap (λ item. marks_of notes (items ++ item ∷ [])) item

pub returns-then-note-marks-2 : goal.returns-then-note-marks-2
returns-then-note-marks-2 c notes items e =
    let item : Signal c.note-in-Signal.inside.0 c.in-Signal.field-1 ≡ c.args.item =
    ap (λ n. Signal n c.in-Signal.field-1) c.note-in-Signal.view_is ∙ sym c.in-Signal.is
    in
    marks_signalled c.note-in-Signal.inside.0 c.in-Signal.field-1 notes items c.args.marks.now c.signal.new.self (record { waits = false; signals = false }) e (λ h. c.signal.ensures)
    ∙ ap (λ item. marks_of notes (items ++ item ∷ [])) item

pub returns-else-note-marks-2 : goal.returns-else-note-marks-2
returns-else-note-marks-2 c notes items e =
    let item : Signal c.note-in-Signal.inside.0 c.in-Signal.field-1 ≡ c.args.item =
    ap (λ n. Signal n c.in-Signal.field-1) c.note-in-Signal.view_is ∙ sym c.in-Signal.is
    in
    marks_unsignalled c.note-in-Signal.inside.0 c.in-Signal.field-1 notes items c.args.marks.now e c.if-note-marks-2.false
    ∙ ap (λ item. marks_of notes (items ++ item ∷ [])) item
