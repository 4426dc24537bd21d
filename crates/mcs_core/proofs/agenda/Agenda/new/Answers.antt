use Rattle.std.proofs.Common.{◌≡◌, ◌<◌, List, [], ◌∷◌, ◌++◌, length, take, get_or, ap, sym, ◌∙◌, append-nil, arith, cond}
use Rattle.std.specs.Prelude.{filter, ◌==◌}
use Rattle.std.proofs.lemmas.List.Elements.{filter_more}
use Rattle.mcs_control.specs.declared.config.Order.{Order}
use Rattle.mcs_core.specs.Orders.{is_for_core}
use Rattle.mcs_core.proofs.agenda.Agenda.new.Goals as goal
use Rattle.mcs_core.proofs.agenda.Agenda.new.Goals.{then-eq+in_ok-push, else-eq}

pub loop-order-preserved : goal.loop-order-preserved
loop-order-preserved c =
    let all : List Order = c.args.system.now.orders in
    let i = c.loop-order.order-index in
    let x : Order = c.order-item.result in
    let earlier : List Order = filter (is_for_core c.args.system.now c.args.core) (take i all) in
    let same : c.as_slice-order-items.result.now ≡ all = c.as_slice-order-items.ensures in
    let l : i < length all = omega (arith, ap length same, c.loop-order-test.true) in
    let at : x ≡ get_or all i x = c.order-item.is ∙ ap (λ xs. get_or xs i x) same in
    let own : c.eq.result ≡ is_for_core c.args.system.now c.args.core x = c.eq.ensures ∙ ap (λ n. n == c.args.core) c.core_of_context.ensures in
    let next =
    filter_more (is_for_core c.args.system.now c.args.core) all i x l
    ∙ ap (λ (o : Order). earlier ++ cond (is_for_core c.args.system.now c.args.core o) (o ∷ []) []) (sym at) in
    elim c.if-eq.branch [
      | then-eq+in_ok-push w ↦
          rw w.orders-is
          (w.in_ok-push.ensures.items ∙ ap (λ os. os ++ x ∷ []) c.loop-order.invariant ∙ sym (next ∙ ap (λ b. earlier ++ cond b (x ∷ []) []) (sym own ∙ w.if-eq.true)))
      | else-eq w ↦
          rw w.orders-is
          (c.loop-order.invariant ∙ sym (next ∙ ap (λ b. earlier ++ cond b (x ∷ []) []) (sym own ∙ w.if-eq.false) ∙ append-nil earlier))
    ]
