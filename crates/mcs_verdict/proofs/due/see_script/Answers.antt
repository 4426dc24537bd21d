use Rattle.std.proofs.Common.{◌≡◌, ◌+◌, ◌∷◌, [], drop, sym, ap, ◌∙◌, arith}
use Rattle.std.proofs.lemmas.List.{drop_all}
use Rattle.mcs_verdict.specs.Dues.{due_part, each_due}
use Rattle.mcs_verdict.proofs.Lists.{next-row}
use Rattle.mcs_verdict.proofs.Dues.{items-step, items-done}
use Rattle.mcs_verdict.proofs.due.see_script.Goals as goal

pub loop-i-preserved : goal.loop-i-preserved
loop-i-preserved c =
    let script = c.args.part.now.script in
    let i = c.loop-i.i in
    let same = c.as_slice-item-items.ensures.same in
    let next : drop i script ≡ c.item-item.result ∷ drop (i + 1) script =
    sym (ap (drop i) same) ∙ next-row c.as_slice-item-items.result.now i c.item-item.result c.loop-i-test.true c.item-item.is
    ∙ ap (λ items. c.item-item.result ∷ drop (i + 1) items) same
    in
    items-step i (i + 1) c.args.part.now.deadline (drop i script) (drop (i + 1) script) c.item-item.result c.loop-i.dues c.see_item.new.dues
    (each_due 0 (λ note due. due_part note c.args.part.now due) c.args.dues.now) (omega arith) next c.see_item.ensures c.loop-i.invariant

pub returns : goal.returns
returns c =
    let script = c.args.part.now.script in
    let i = c.loop-i.i in
    let same = c.as_slice-item-items.ensures.same in
    let none : drop i script ≡ [] = sym (ap (drop i) same) ∙ drop_all i c.as_slice-item-items.result.now c.loop-i-test.false in
    items-done i c.args.part.now.deadline (drop i script) c.loop-i.dues (each_due 0 (λ note due. due_part note c.args.part.now due) c.args.dues.now)
    none c.loop-i.invariant
