use Rattle.std.proofs.Common.{ap, ◌∙◌}
use Rattle.mcs_mail.specs.Box.{arriving}
use Rattle.mcs_core.specs.Orders.{due_now, orders_of}
use Rattle.mcs_core.specs.Quiet.{counted_times}
use Rattle.mcs_core.proofs.Ends.{preempted-holds}
use Rattle.mcs_core.proofs.Plans.{orders_of-by_moment, to_come-by_moment, orders_of-planned, to_come-planned, due-of}
use Rattle.mcs_core.proofs.Ringing.{alarms-are}
use Rattle.mcs_core.proofs.Runs.{on_ok-map}
use Rattle.mcs_core.proofs.Whole.{whole-turn, ticked-sound, rang-sound, arrived-sound, obeyed-sound, released-sound, preempted-sound, chosen-sound}
use Rattle.mcs_core.proofs.local.Local.turn.Goals as goal

pub interrupts-requires-clause-sound : goal.interrupts-requires-clause-sound
interrupts-requires-clause-sound g c =
    ticked-sound c.args.here.now c.requires.can.well_formed c.requires.can.soon (counted_times c.args.here.now.system.now c.args.here.now.core c.args.quiet c.args.self.now) c.tick.new.self c.requires.can.sound c.in_ok-tick.ensures.core

pub interrupts-requires-clause-alarms : goal.interrupts-requires-clause-alarms
interrupts-requires-clause-alarms g c =
    rw c.requires.can.alarmed (alarms-are c.args.here.now.system.now c.args.here.now.core c.requires.can.well_formed c.args.here.now.moment)

pub arrivals-requires-clause-sound : goal.arrivals-requires-clause-sound
arrivals-requires-clause-sound g c =
    rang-sound c.args.here.now c.requires.can.well_formed c.requires.can.soon (counted_times c.args.here.now.system.now c.args.here.now.core c.args.quiet c.args.self.now) c.tick.new.self c.requires.can.sound c.in_ok-tick.ensures.core
    c.interrupts.new.self (rw c.requires.can.alarmed at c.in_ok-interrupts.ensures.makes.core)

pub orders-requires-clause-sound : goal.orders-requires-clause-sound
orders-requires-clause-sound g c =
    arrived-sound c.args.here.now c.requires.can.well_formed c.requires.can.soon (counted_times c.args.here.now.system.now c.args.here.now.core c.args.quiet c.args.self.now) c.tick.new.self c.requires.can.sound c.in_ok-tick.ensures.core
    c.interrupts.new.self (rw c.requires.can.alarmed at c.in_ok-interrupts.ensures.makes.core)
    c.args.mail.now.mails c.arrivals.new.self c.requires.can.known c.in_ok-arrivals.ensures.makes.core

pub orders-requires-clause-planned : goal.orders-requires-clause-planned
orders-requires-clause-planned g c =
    rw c.requires.can.planned (to_come-planned c.args.here.now.system.now c.args.here.now.core c.args.here.now.moment (orders_of c.args.here.now.system.now c.args.here.now.core) (orders_of-planned c.args.here.now.system.now c.args.here.now.core c.requires.can.well_formed))

pub orders-requires-clause-by_moment : goal.orders-requires-clause-by_moment
orders-requires-clause-by_moment g c =
    rw c.requires.can.planned (to_come-by_moment 0 c.args.here.now.moment (orders_of c.args.here.now.system.now c.args.here.now.core) (orders_of-by_moment c.args.here.now.system.now c.args.here.now.core))

pub releases-requires-clause-sound : goal.releases-requires-clause-sound
releases-requires-clause-sound g c =
    obeyed-sound c.args.here.now c.requires.can.well_formed c.requires.can.soon (counted_times c.args.here.now.system.now c.args.here.now.core c.args.quiet c.args.self.now) c.tick.new.self c.requires.can.sound c.in_ok-tick.ensures.core
    c.interrupts.new.self (rw c.requires.can.alarmed at c.in_ok-interrupts.ensures.makes.core)
    c.args.mail.now.mails c.arrivals.new.self c.requires.can.known c.in_ok-arrivals.ensures.makes.core
    c.args.agenda.now c.orders.new.self c.requires.can.planned c.in_ok-orders.ensures.makes.core

pub preempt-requires-clause-sound : goal.preempt-requires-clause-sound
preempt-requires-clause-sound g c =
    released-sound c.args.here.now c.requires.can.well_formed c.requires.can.soon (counted_times c.args.here.now.system.now c.args.here.now.core c.args.quiet c.args.self.now) c.tick.new.self c.requires.can.sound c.in_ok-tick.ensures.core
    c.interrupts.new.self (rw c.requires.can.alarmed at c.in_ok-interrupts.ensures.makes.core)
    c.args.mail.now.mails c.arrivals.new.self c.requires.can.known c.in_ok-arrivals.ensures.makes.core
    c.args.agenda.now c.orders.new.self c.requires.can.planned c.in_ok-orders.ensures.makes.core c.releases.new.self c.in_ok-releases.ensures.core

pub choose-requires-clause-sound : goal.choose-requires-clause-sound
choose-requires-clause-sound g c =
    preempted-sound c.args.here.now c.requires.can.well_formed c.requires.can.soon (counted_times c.args.here.now.system.now c.args.here.now.core c.args.quiet c.args.self.now) c.tick.new.self c.requires.can.sound c.in_ok-tick.ensures.core
    c.interrupts.new.self (rw c.requires.can.alarmed at c.in_ok-interrupts.ensures.makes.core)
    c.args.mail.now.mails c.arrivals.new.self c.requires.can.known c.in_ok-arrivals.ensures.makes.core
    c.args.agenda.now c.orders.new.self c.requires.can.planned c.in_ok-orders.ensures.makes.core c.releases.new.self c.in_ok-releases.ensures.core c.preempt.new.self c.in_ok-preempt.ensures.core

pub choose-requires-clause-holds : goal.choose-requires-clause-holds
choose-requires-clause-holds g c =
    rw c.in_ok-preempt.ensures.core (preempted-holds c.args.here.now.system.now c.args.here.now.moment c.releases.new.self)

pub returns-clause-makes : goal.returns-clause-makes
returns-clause-makes g c =
    on_ok-map _ _ c.choose.result
    (whole-turn c.args.here.now (arriving c.args.here.now.moment c.args.mail.now.mails) (due_now c.args.here.now.moment c.args.agenda.now)
    (counted_times c.args.here.now.system.now c.args.here.now.core c.args.quiet c.args.self.now) c.tick.new.self c.interrupts.new.self c.arrivals.new.self c.orders.new.self c.releases.new.self c.preempt.new.self c.choose.new.self
    c.args.log.now c.tick.new.log c.interrupts.new.log c.arrivals.new.log c.orders.new.log c.releases.new.log c.preempt.new.log c.choose.new.log
    (ap (due_now c.args.here.now.moment) c.requires.can.planned ∙ due-of c.args.here.now.system.now c.args.here.now.core c.args.here.now.moment)
    c.in_ok-tick.ensures (rw c.requires.can.alarmed at c.in_ok-interrupts.ensures.makes) c.in_ok-arrivals.ensures.makes c.in_ok-orders.ensures.makes c.in_ok-releases.ensures c.in_ok-preempt.ensures)
    c.choose.ensures.makes

pub returns-clause-sound : goal.returns-clause-sound
returns-clause-sound g c =
    on_ok-map _ _ c.choose.result
    (chosen-sound c.args.here.now c.requires.can.well_formed c.requires.can.soon (counted_times c.args.here.now.system.now c.args.here.now.core c.args.quiet c.args.self.now) c.tick.new.self c.requires.can.sound c.in_ok-tick.ensures.core
    c.interrupts.new.self (rw c.requires.can.alarmed at c.in_ok-interrupts.ensures.makes.core)
    c.args.mail.now.mails c.arrivals.new.self c.requires.can.known c.in_ok-arrivals.ensures.makes.core
    c.args.agenda.now c.orders.new.self c.requires.can.planned c.in_ok-orders.ensures.makes.core c.releases.new.self c.in_ok-releases.ensures.core c.preempt.new.self c.in_ok-preempt.ensures.core
    c.choose.new.self c.preempt.new.log c.choose.new.log)
    c.choose.ensures.makes
