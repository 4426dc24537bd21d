use Rattle.mcs_ever_told.specs.Lines.{miss_line}
use Rattle.mcs_ever_told.proofs.Numbers.{lines-more}
use Rattle.mcs_ever_told.proofs.outlook.lines.push_misses.Goals as goal

pub loop-thread-preserved : goal.loop-thread-preserved
loop-thread-preserved c =
    lines-more (miss_line c.args.span.now.system.now c.args.span.now.own.now c.args.span.now.forever c.args.span.now.before.now c.args.span.now.after.now)
    c.loop-thread.thread _ _ _ _ c.loop-thread.invariant c.in_ok-push.ensures c.miss_line.ensures
