use Rattle.std.proofs.Common.{◌+◌, drop}
use Rattle.std.proofs.lemmas.List.{drop_all}
use Rattle.mcs_verdict.specs.Dues.{due_parts, each_due}
use Rattle.mcs_verdict.proofs.Lists.{next-row}
use Rattle.mcs_verdict.proofs.Dues.{parts-step, parts-done}
use Rattle.mcs_verdict.proofs.due.see_scripts.Goals as goal

pub loop-part-preserved : goal.loop-part-preserved
loop-part-preserved c =
    let parts = c.args.parts.now in
    let i = c.loop-part.part-index in
    parts-step (drop i parts) (drop (i + 1) parts) c.part-item.result c.loop-part.dues c.see_script.new.dues
    (each_due 0 (λ note due. due_parts note parts due) c.args.dues.now)
    (next-row parts i c.part-item.result c.loop-part-test.true c.part-item.is) c.see_script.ensures c.loop-part.invariant

pub returns : goal.returns
returns c =
    let parts = c.args.parts.now in
    let i = c.loop-part.part-index in
    parts-done (drop i parts) c.loop-part.dues (each_due 0 (λ note due. due_parts note parts due) c.args.dues.now)
    (drop_all i parts c.loop-part-test.false) c.loop-part.invariant
