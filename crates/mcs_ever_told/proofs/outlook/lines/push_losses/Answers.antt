use Rattle.mcs_ever_told.specs.Lines.{lost_line}
use Rattle.mcs_ever_told.proofs.Numbers.{lines-more}
use Rattle.mcs_ever_told.proofs.outlook.lines.push_losses.Goals as goal

pub loop-note-preserved : goal.loop-note-preserved
loop-note-preserved c =
    lines-more (lost_line c.args.span.now.system.now c.args.span.now.own.now c.args.span.now.forever c.args.span.now.before.now c.args.span.now.after.now c.args.allowed.now)
    c.loop-note.note _ _ _ _ c.loop-note.invariant c.in_ok-push.ensures c.lost_line.ensures
