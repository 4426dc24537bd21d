use Rattle.std.proofs.Common.{rules}
use Rattle.std.proofs.lemmas.List.Sorted.{answers_always, IsNonDecreasingBy-from_sort}
use Rattle.mcs_control.specs.declared.config.Order.{Order}
use Rattle.mcs_core.proofs.Plans.{stably-sorted}
use Rattle.mcs_core.proofs.open.sort_orders.Goals as goal

pub returns : goal.returns
returns c =
    let keys = answers_always _ _ _ (λ f a r next called. search rules) in
    let up = c.in_ok-sort_by_key.ensures.sorted (λ (o : Order). o.moment) keys in
    stably-sorted _ _ (IsNonDecreasingBy-from_sort (λ (o : Order). o.moment) _ up) (c.sort_by_key.ensures.stable (λ (o : Order). o.moment) keys)
