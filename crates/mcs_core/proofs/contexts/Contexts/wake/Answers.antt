use Rattle.mcs_control.specs.Context.{context_woken}
use Rattle.mcs_core.proofs.Kept.{found, changed-seen, changed-room}
use Rattle.mcs_core.proofs.contexts.Contexts.wake.Goals as goal

pub invariant_of-self : goal.invariant_of-self
invariant_of-self c =
    changed-room c.number.inside.0 c.args.number c.self.inside.contexts.items c.args.self.now c.in-Some.context c.deref_mut.result.now c.wake.new.self
    (found c.number.inside.0 c.args.number c.self.inside.contexts.items c.args.self.now c.index_mut.result.now c.in-Some.context c.number.view_is c.self.view_is c.requires.own c.index_mut.ensures.value c.in-Some.is)
    c.self.invariant c.deref_mut.ensures.value c.wake.ensures.room

pub returns : goal.returns
returns c =
    changed-seen c.number.inside.0 c.args.number c.self.inside.contexts.items c.args.self.now c.in-Some.context c.deref_mut.result.now c.wake.new.self (context_woken c.args.moment) c.number.view_is
    (found c.number.inside.0 c.args.number c.self.inside.contexts.items c.args.self.now c.index_mut.result.now c.in-Some.context c.number.view_is c.self.view_is c.requires.own c.index_mut.ensures.value c.in-Some.is)
    c.deref_mut.ensures.value c.wake.ensures.context
