use Rattle.mcs_verdict.specs.Due.{untaken}
use Rattle.mcs_ever_told.specs.Lines.{untaken_line}
use Rattle.mcs_ever_told.proofs.Numbers.{lines-more}
use Rattle.mcs_ever_told.proofs.outlook.lines.push_untaken.Goals as goal

pub loop-note-preserved : goal.loop-note-preserved
loop-note-preserved c = λ past kept.
    let s = c.args.system.now in
    lines-more (untaken_line s c.args.own.now c.args.moment (untaken s past c.args.moment))
    c.loop-note.note _ _ _ _ (c.loop-note.invariant past kept) c.in_ok-push.ensures (c.untaken_line-line.ensures past kept)
