use Rattle.std.proofs.Common.{get_or, subst, rules}
use borrow.Author.Count.{below_more}
use Rattle.mcs_ever.specs.Marks.{no_mark}
use Rattle.mcs_ever.specs.declared.marks.Mark.{Mark}
use Rattle.mcs_ever_again.specs.Told.{OwnKeepsUp}
use Rattle.mcs_ever_again.proofs.Marking.{marked-keep-up}
use Rattle.mcs_ever_again.proofs.recurs.marked.marked_keep_up.Goals as goal

pub loop-thread-preserved : goal.loop-thread-preserved
loop-thread-preserved c =
    let t = c.loop-thread.thread in
    let own : OwnKeepsUp c.args.system.now c.args.by c.args.group.now c.args.lags.now c.of-mark.result t = c.own_keeps_up.ensures (search rules) in
    below_more (λ thread. OwnKeepsUp c.args.system.now c.args.by c.args.group.now c.args.lags.now (get_or c.args.marks.now thread no_mark) thread) t
    c.loop-thread.invariant
    (subst (λ (mark : Mark). OwnKeepsUp c.args.system.now c.args.by c.args.group.now c.args.lags.now mark t) c.of-mark.ensures own)

pub returns : goal.returns
returns c = λ yes core own.
    marked-keep-up c.args.system.now c.args.by c.args.group.now c.args.lags.now c.args.marks.now
    (λ thread known. c.loop-thread.invariant thread (search rules)) core own
