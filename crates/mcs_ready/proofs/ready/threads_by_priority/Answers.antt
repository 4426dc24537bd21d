use Rattle.std.proofs.Common.{◌≡◌, ℕ, suc, ◌-◌, ◌<◌, ◌++◌, ◌∙◌, List, ap, arith, drop, length, sym}
use Rattle.std.proofs.lemmas.List.{at_drop_all, get_or_default, length-map}
use Rattle.mcs_ticks.specs.declared.queue.Queued.{Queued}
use Rattle.mcs_ready.specs.stored.Lines.{no_thread, all_threads, threads_of, queued_at, queue_from}
use Rattle.mcs_ready.proofs.Listed.{queue-line}
use Rattle.mcs_ready.proofs.ready.threads_by_priority.Goals as goal

pub loop-priority-init : goal.loop-priority-init
loop-priority-init c =
    c.new-list.ensures.items
    ∙ sym (at_drop_all (queue_from 256) (all_threads c.args.next.now c.args.lasts.now) 256 (omega (arith, c.requires.count, length-map c.args.lasts.now (threads_of c.args.next.now))))

pub push_line-requires : goal.push_line-requires
push_line-requires c =
    let p = c.loop-priority.priority - 1 in
    let below : p < length c.args.lasts.now = omega arith in
    rw (c.index-lasts-priority.is ∙ get_or_default c.args.lasts.now p _ no_thread below) (c.requires.lines p)

pub loop-priority-preserved : goal.loop-priority-preserved
loop-priority-preserved c =
    let p = c.loop-priority.priority - 1 in
    let below : p < length c.args.lasts.now = omega arith in
    let next : c.loop-priority.priority ≡ suc p = omega arith in
    let all = all_threads c.args.next.now c.args.lasts.now in
    c.in_ok-push_line.ensures
    ∙ ap (λ (items : List Queued). items ++ queued_at p (threads_of c.args.next.now c.index-lasts-priority.result))
    (c.loop-priority.invariant ∙ ap (λ (n : ℕ). queue_from n (drop n all)) next)
    ∙ sym (queue-line c.args.next.now c.args.lasts.now p c.index-lasts-priority.result below c.index-lasts-priority.is)
