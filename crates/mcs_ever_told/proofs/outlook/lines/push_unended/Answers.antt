use Rattle.mcs_verdict.specs.Misses.{unended}
use Rattle.mcs_ever_told.specs.Lines.{end_line}
use Rattle.mcs_ever_told.proofs.Numbers.{lines-more}
use Rattle.mcs_ever_told.proofs.outlook.lines.push_unended.Goals as goal

pub loop-thread-preserved : goal.loop-thread-preserved
loop-thread-preserved c = λ past kept up.
    let s = c.args.system.now in
    lines-more (end_line s c.args.own.now c.args.moment (unended s past c.args.moment))
    c.loop-thread.thread _ _ _ _ (c.loop-thread.invariant past kept up) c.in_ok-push.ensures (c.end_line-line.ensures past kept up)
