use Rattle.std.proofs.Common.{◌≡◌, ◌+◌, ◌<◌, List, [], ◌∷◌, ◌++◌, ℕ, length, get_or, max, take, sym, ap, subst, ◌∙◌, arith}
use Rattle.std.proofs.lemmas.List.{take_more, take_all}
use Rattle.mcs_control.specs.declared.config.Order.{Order}
use Rattle.mcs_ever_search.proofs.Ending.{IsEnd, end-none, end-more}
use Rattle.mcs_ever_search.proofs.orders.orders_end.Goals as goal

pub loop-order-init : goal.loop-order-init
loop-order-init c = end-none

pub loop-order-preserved : goal.loop-order-preserved
loop-order-preserved c =
    let orders = c.args.parts.now.orders in
    let i = c.loop-order.order-index in
    let order = c.order-item.result in
    let items = c.as_slice-order-items.ensures in
    let within : i < length orders = omega (arith, ap (λ (os : List Order). length os) items, c.loop-order-test.true) in
    let at : order ≡ get_or orders i order = c.order-item.is ∙ ap (λ (os : List Order). get_or os i order) items in
    let next : take i orders ++ order ∷ [] ≡ take (i + 1) orders =
    ap (λ (x : Order). take i orders ++ x ∷ []) at ∙ sym (take_more orders i order within) in
    let end : max c.loop-order.end (order.moment + 1) ≡ c.greater-end.result =
    sym (c.greater-end.ensures ∙ ap (λ (m : ℕ). max c.loop-order.end (m + 1)) c.get.ensures.value) in
    let P : List Order → Type 0 = λ os. IsEnd os c.greater-end.result in
    let Q : ℕ → Type 0 = λ e. IsEnd (take i orders ++ order ∷ []) e in
    subst P next (subst Q end (end-more (take i orders) order c.loop-order.end c.loop-order.invariant))

pub returns : goal.returns
returns c =
    let orders = c.args.parts.now.orders in
    let items = c.as_slice-order-items.ensures in
    let P : List Order → Type 0 = λ os. IsEnd os c.loop-order.end in
    let all = subst P (take_all c.loop-order.order-index orders (omega (arith, ap (λ (os : List Order). length os) items, c.loop-order-test.false))) c.loop-order.invariant in
    record { all = all.all; first = all.first }
