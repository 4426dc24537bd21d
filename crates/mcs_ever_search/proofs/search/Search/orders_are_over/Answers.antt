use Rattle.std.proofs.Common.{arith, subst}
use Rattle.std.specs.Prelude.{◌↔◌, IsTrue}
use Rattle.std.specs.Arc.{arc_value}
use Rattle.mcs_ever_search.specs.Compared.{Compared, OrdersComeBefore}
use Rattle.mcs_ever_search.proofs.Ending.{orders-later}
use Rattle.mcs_ever_search.proofs.search.Search.orders_are_over.Goals as goal

pub returns : goal.returns
returns c =
    let a = c.self.inside in
    let s = arc_value a.system in
    let P : Compared → Type 0 = λ t. IsTrue c.is_at_most.result ↔ OrdersComeBefore t.system t.clock in
    subst P c.self.view_is (
      λ yes. orders-later s.orders a.orders_end a.clock (let l = c.is_at_most.ensures.0 yes in omega (arith, l, c.get.ensures.value)) c.self.invariant.orders,
      λ all. c.is_at_most.ensures.1 (let l = c.self.invariant.first a.clock all in omega (arith, l, c.get.ensures.value)),
    )
