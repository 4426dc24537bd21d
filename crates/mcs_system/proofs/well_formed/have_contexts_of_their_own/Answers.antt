use Rattle.std.proofs.Common.{◌<◌, ap, sym, subst, arith}
use Rattle.mcs_system.specs.declared.part.ThreadPart.{ThreadPart}
use Rattle.mcs_system.proofs.Marks.{marked_none, marked_more}
use Rattle.mcs_system.proofs.well_formed.have_contexts_of_their_own.Goals as goal

pub loop-thread-init : goal.loop-thread-init
loop-thread-init c = marked_none (λ thread. thread.context) c.args.threads.now

pub loop-thread-preserved : goal.loop-thread-preserved
loop-thread-preserved c =
    let n = c.loop-thread.thread-index in
    let x = c.thread-item.result in
    let bound = subst (λ (thread : ThreadPart). thread.context < 4096) (sym c.thread-item.is) (c.requires n x (omega arith)) in
    let same = ap (λ (thread : ThreadPart). thread.context) c.thread.view_is in
    rw same (marked_more (λ thread. thread.context) c.args.threads.now c.loop-thread.has_thread n x (omega arith) c.thread-item.is bound (search arith) c.loop-thread.invariant)
