use Rattle.mcs_ever_told.specs.Lines.{thread_so_far}
use Rattle.mcs_ever_told.proofs.Numbers.{lines-more}
use Rattle.mcs_ever_told.proofs.outlook.threads.push_so_far.Goals as goal

pub loop-thread-preserved : goal.loop-thread-preserved
loop-thread-preserved c =
    lines-more (thread_so_far c.args.system.now c.args.own.now c.args.course.now)
    c.loop-thread.thread _ _ _ _ c.loop-thread.invariant c.in_ok-push.ensures c.thread_so_far.ensures
