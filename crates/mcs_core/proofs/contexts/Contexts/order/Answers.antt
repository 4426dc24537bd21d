use Rattle.std.proofs.Common.{ap, arith}
use Rattle.mcs_control.specs.Context.{WithRoom, context_ordered}
use Rattle.mcs_core.proofs.Kept.{found, room-found, changed-seen, changed-room}
use Rattle.mcs_core.proofs.contexts.Contexts.order.Goals as goal

pub invariant_of-self : goal.invariant_of-self
invariant_of-self c =
    changed-room c.number.inside.0 c.args.number c.self.inside.contexts.items c.args.self.now c.in-Some.context c.deref_mut.result.now c.order.new.self
    (found c.number.inside.0 c.args.number c.self.inside.contexts.items c.args.self.now c.index_mut.result.now c.in-Some.context c.number.view_is c.self.view_is c.requires.own c.index_mut.ensures.value c.in-Some.is)
    c.self.invariant c.deref_mut.ensures.value c.order.ensures.room

pub returns : goal.returns
returns c =
    changed-seen c.number.inside.0 c.args.number c.self.inside.contexts.items c.args.self.now c.in-Some.context c.deref_mut.result.now c.order.new.self (context_ordered c.args.moment c.args.config) c.number.view_is
    (found c.number.inside.0 c.args.number c.self.inside.contexts.items c.args.self.now c.index_mut.result.now c.in-Some.context c.number.view_is c.self.view_is c.requires.own c.index_mut.ensures.value c.in-Some.is)
    c.deref_mut.ensures.value c.order.ensures.context

pub order-requires-clause-fits : goal.order-requires-clause-fits
order-requires-clause-fits c =
    let room = room-found c.args.number c.self.inside.contexts.items c.args.self.now c.in-Some.context
    (found c.number.inside.0 c.args.number c.self.inside.contexts.items c.args.self.now c.index_mut.result.now c.in-Some.context c.number.view_is c.self.view_is c.requires.own c.index_mut.ensures.value c.in-Some.is)
    c.self.invariant in
    omega (arith, ap (λ (x : WithRoom). x.room) c.deref_mut.ensures.value, room, c.requires.checked.few)
