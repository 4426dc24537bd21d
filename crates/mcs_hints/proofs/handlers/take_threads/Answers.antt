use Rattle.std.proofs.Common.{take, ◌∙◌}
use Rattle.mcs_hints.specs.Handlers.{taken_from}
use Rattle.mcs_hints.proofs.Numbers.{same_numbers}
use Rattle.mcs_hints.proofs.Taken.{thread_more}
use Rattle.mcs_hints.proofs.handlers.take_threads.Goals as goal

pub loop-thread-preserved : goal.loop-thread-preserved
loop-thread-preserved c notes is =
    let n = c.loop-thread.thread-index in
    c.take_script.ensures notes (taken_from (take n c.args.threads.now)) (c.loop-thread.invariant notes is)
    ∙ same_numbers _ _ notes 0 (λ note. thread_more note c.args.threads.now n c.thread-item.result c.loop-thread-test.true c.thread-item.is)
