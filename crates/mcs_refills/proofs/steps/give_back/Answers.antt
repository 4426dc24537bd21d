use Rattle.std.proofs.Common.{◌∙◌, ap, arith}
use Rattle.circular_buffer.specs.Buffer.{buffer}
use Rattle.mcs_refills.proofs.Ends.{last-is, ends-with, joins, appends, moves}
use Rattle.mcs_refills.proofs.steps.give_back.Goals as goal

pub overflow_add-amount : goal.overflow_add-amount
overflow_add-amount c = omega (arith, ends-with c.args.refills.now.items _ c.last-last.ensures)

pub overflow_add-last : goal.overflow_add-last
overflow_add-last c = omega (arith, ends-with c.args.refills.now.items _ c.last-last.ensures)

pub overflow_sub-back : goal.overflow_sub-back
overflow_sub-back c = omega (arith, ends-with c.args.refills.now.items _ c.last-last.ensures)

pub returns-then-last-back : goal.returns-then-last-back
returns-then-last-back c =
    let f = joins c.args.max_refills c.len-count.result c.args.back _ _ c.args.refills.now.items (last-is _ _ c.last-last.ensures) c.if-last-back.true in
    c.set_last.ensures ∙ ap (λ xs. buffer xs c.args.refills.now.capacity) f

pub returns-then-count-max_refills : goal.returns-then-count-max_refills
returns-then-count-max_refills c =
    let f = appends c.args.max_refills c.len-count.result c.args.back _ _ c.args.refills.now.items (last-is _ _ c.last-last.ensures) c.len-count.ensures c.if-last-back.false c.if-count-max_refills.true in
    c.push_last.ensures ∙ ap (λ xs. buffer xs c.args.refills.now.capacity) f

pub returns-else-count-max_refills : goal.returns-else-count-max_refills
returns-else-count-max_refills c =
    let f = moves c.args.max_refills c.len-count.result c.args.back _ _ c.args.refills.now.items (last-is _ _ c.last-last.ensures) c.len-count.ensures c.if-last-back.false (omega arith) in
    c.set_last-else-count-max_refills.ensures ∙ ap (λ xs. buffer xs c.args.refills.now.capacity) f
