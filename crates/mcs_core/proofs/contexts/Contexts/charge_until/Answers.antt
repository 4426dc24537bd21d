use Rattle.std.proofs.Common.{ap, ◌∙◌}
use Rattle.mcs_control.specs.Context.{context_charged, date_from}
use Rattle.mcs_core.proofs.Kept.{found, changed-held, changed-seen, changed-room}
use Rattle.mcs_core.proofs.contexts.Contexts.charge_until.Goals as goal

pub invariant_of-self : goal.invariant_of-self
invariant_of-self c =
    changed-room c.number.inside.0 c.args.number c.self.inside.contexts.items c.args.self.now c.in-Some.context c.as_mut-context.result.now c.charge.new.self
    (found c.number.inside.0 c.args.number c.self.inside.contexts.items c.args.self.now c.index_mut.result.now c.in-Some.context c.number.view_is c.self.view_is c.requires.own c.index_mut.ensures.value c.in-Some.is)
    c.self.invariant c.as_mut-context.ensures.value c.charge.ensures.room

pub returns-clause-contexts : goal.returns-clause-contexts
returns-clause-contexts c =
    changed-seen c.number.inside.0 c.args.number c.self.inside.contexts.items c.args.self.now c.in-Some.context c.as_mut-context.result.now c.charge.new.self (context_charged c.args.ticks c.args.min_budget) c.number.view_is
    (found c.number.inside.0 c.args.number c.self.inside.contexts.items c.args.self.now c.index_mut.result.now c.in-Some.context c.number.view_is c.self.view_is c.requires.own c.index_mut.ensures.value c.in-Some.is)
    c.as_mut-context.ensures.value c.charge.ensures.context

pub returns-clause-until : goal.returns-clause-until
returns-clause-until c =
    c.date_from.ensures
    ∙ ap (date_from c.args.moment)
    (changed-held c.args.number c.self.inside.contexts.items c.args.self.now c.in-Some.context c.as_mut-context.result.now c.charge.new.self (context_charged c.args.ticks c.args.min_budget)
    (found c.number.inside.0 c.args.number c.self.inside.contexts.items c.args.self.now c.index_mut.result.now c.in-Some.context c.number.view_is c.self.view_is c.requires.own c.index_mut.ensures.value c.in-Some.is)
    c.as_mut-context.ensures.value c.charge.ensures.context)
