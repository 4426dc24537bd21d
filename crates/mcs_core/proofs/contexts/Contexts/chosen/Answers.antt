use Rattle.std.proofs.Common.{ap, ◌∙◌}
use Rattle.mcs_control.specs.Context.{context_chosen, head_amount}
use Rattle.mcs_core.proofs.Kept.{found, changed-held, changed-seen, changed-room}
use Rattle.mcs_core.proofs.contexts.Contexts.chosen.Goals as goal

pub invariant_of-self : goal.invariant_of-self
invariant_of-self c =
    changed-room c.number.inside.0 c.args.number c.self.inside.contexts.items c.args.self.now c.in-Some.context c.as_mut-context.result.now c.chosen.new.self
    (found c.number.inside.0 c.args.number c.self.inside.contexts.items c.args.self.now c.index_mut.result.now c.in-Some.context c.number.view_is c.self.view_is c.requires.own c.index_mut.ensures.value c.in-Some.is)
    c.self.invariant c.as_mut-context.ensures.value c.chosen.ensures.room

pub returns-clause-contexts : goal.returns-clause-contexts
returns-clause-contexts c =
    changed-seen c.number.inside.0 c.args.number c.self.inside.contexts.items c.args.self.now c.in-Some.context c.as_mut-context.result.now c.chosen.new.self (context_chosen c.args.moment) c.number.view_is
    (found c.number.inside.0 c.args.number c.self.inside.contexts.items c.args.self.now c.index_mut.result.now c.in-Some.context c.number.view_is c.self.view_is c.requires.own c.index_mut.ensures.value c.in-Some.is)
    c.as_mut-context.ensures.value c.chosen.ensures.context

pub returns-clause-head : goal.returns-clause-head
returns-clause-head c =
    c.head_amount.ensures.value
    ∙ ap head_amount
    (changed-held c.args.number c.self.inside.contexts.items c.args.self.now c.in-Some.context c.as_mut-context.result.now c.chosen.new.self (context_chosen c.args.moment)
    (found c.number.inside.0 c.args.number c.self.inside.contexts.items c.args.self.now c.index_mut.result.now c.in-Some.context c.number.view_is c.self.view_is c.requires.own c.index_mut.ensures.value c.in-Some.is)
    c.as_mut-context.ensures.value c.chosen.ensures.context)
