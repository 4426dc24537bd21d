use Rattle.std.proofs.Common.{List, sym, ap, ◌∙◌, arith}
use Rattle.mcs_ticks.specs.Queue.{by_priority}
use Rattle.mcs_control.specs.declared.config.Order.{Order}
use Rattle.mcs_core.specs.Turn.{each, obeys}
use Rattle.mcs_core.specs.Orders.{due_now}
use Rattle.mcs_core.proofs.Loops.{goes-step, goes-end, first-due-is, first-planned, none-due-now, none-due-later, no-order-taken}
use Rattle.mcs_core.proofs.Systems.{one-each}
use Rattle.mcs_core.proofs.Turning.{obeys-sound}
use Rattle.mcs_core.proofs.local.Local.obey_due.Goals as goal

pub agenda-preserved : goal.agenda-preserved
agenda-preserved g c =
    let due = sym c.take_due.ensures.taken ∙ c.in-Some.is in
    let first = first-due-is c.args.here.now.system.now c.args.here.now.core c.args.here.now.moment c.in-Some.order c.agenda.agenda c.agenda.invariant.by_moment c.agenda.invariant.planned due in
    let plan = first-planned c.args.here.now.system.now c.args.here.now.core c.args.here.now.moment c.in-Some.order c.agenda.agenda c.agenda.invariant.planned due in
    record {
      sound = rw c.in_ok-obey.ensures.core
          (obeys-sound c.args.here.now.system.now c.args.here.now.core c.args.here.now.moment (one-each c.args.here.now.system.now c.requires.well_formed) c.args.here.now.moment c.in-Some.order c.agenda.self c.requires.soon (omega arith)
          (record { accepted = plan.accepted; same_kind = plan.same_kind; known = plan.known }) (c.agenda.invariant.sound.own c.in-Some.order.context plan.known ∙ plan.home) c.agenda.invariant.sound);
      planned = rw c.take_due.ensures.left first.planned;
      by_moment = rw c.take_due.ensures.left first.by_moment;
      left = rw c.take_due.ensures.left (sym first.later ∙ c.agenda.invariant.left);
      goes = goes-step c.args.here.now _ _ c.args.log.now c.agenda.log c.obey.new.log
          (obeys by_priority c.args.here.now.system.now c.args.here.now.moment c.in-Some.order c.agenda.self)
          (each (obeys by_priority c.args.here.now.system.now c.args.here.now.moment) (due_now c.args.here.now.moment c.take_due.new.self)) c.obey.new.self
          c.agenda.invariant.goes
          (rw c.take_due.ensures.left (ap (λ (os : List Order). each (obeys by_priority c.args.here.now.system.now c.args.here.now.moment) os c.agenda.self) first.now))
          c.in_ok-obey.ensures;
    }

pub returns-clause-makes : goal.returns-clause-makes
returns-clause-makes g c =
    let none = none-due-now c.args.here.now.moment c.agenda.agenda c.agenda.invariant.by_moment (sym c.take_due.ensures.taken ∙ c.in_default.is) in
    goes-end c.args.here.now _ _ c.args.log.now c.agenda.log c.agenda.self c.agenda.invariant.goes
    (ap (λ (os : List Order). each (obeys by_priority c.args.here.now.system.now c.args.here.now.moment) os c.agenda.self) none)

pub returns-clause-agenda : goal.returns-clause-agenda
returns-clause-agenda g c =
    let due = sym c.take_due.ensures.taken ∙ c.in_default.is in
    c.take_due.ensures.left ∙ no-order-taken c.args.here.now.moment c.agenda.agenda due ∙ sym (none-due-later c.args.here.now.moment c.agenda.agenda c.agenda.invariant.by_moment due) ∙ c.agenda.invariant.left
