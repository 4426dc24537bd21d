use Rattle.std.proofs.Common.{List, length, sym, ap, ◌∙◌, arith}
use Rattle.mcs_ticks.specs.Queue.{by_priority}
use Rattle.mcs_core.specs.declared.alarm.Alarm.{Alarm}
use Rattle.mcs_core.specs.Alarms.{ringing}
use Rattle.mcs_core.specs.Turn.{each, interrupts}
use Rattle.mcs_core.specs.stored.Sound.Phase.{PastTick}
use Rattle.mcs_core.proofs.Ringing.{first-ringing-is, none-ringing, none-rung, past-none}
use Rattle.mcs_core.proofs.Loops.{goes-step, goes-end}
use Rattle.mcs_core.proofs.Systems.{one-each}
use Rattle.mcs_core.proofs.Wakes.{posts-sound}
use Rattle.mcs_core.proofs.local.Local.ring.Goals as goal

pub alarms-preserved : goal.alarms-preserved
alarms-preserved g c =
    let rings = sym c.take_ringing.ensures.taken ∙ c.in-Some.is in
    let first = first-ringing-is (length c.args.here.now.system.now.notes) c.args.here.now.moment c.in-Some.alarm c.alarms.alarms c.alarms.invariant.are rings in
    record {
      sound = rw c.in_ok-interrupt.ensures.core
          (posts-sound c.args.here.now.system.now c.args.here.now.core c.args.here.now.moment (one-each c.args.here.now.system.now c.requires.well_formed) PastTick c.args.here.now.moment c.in-Some.alarm.note c.in-Some.alarm.badge c.alarms.self
          c.requires.soon (omega arith) (rw c.alarms.invariant.sound.notes first.known) c.alarms.invariant.sound);
      are = rw c.take_ringing.ensures.left first.are;
      left = rw c.take_ringing.ensures.left (sym first.later ∙ c.alarms.invariant.left);
      goes = goes-step c.args.here.now _ _ c.args.log.now c.alarms.log c.interrupt.new.log
          (interrupts by_priority c.args.here.now.system.now c.args.here.now.moment c.in-Some.alarm c.alarms.self)
          (each (interrupts by_priority c.args.here.now.system.now c.args.here.now.moment) (ringing c.args.here.now.moment c.take_ringing.new.self)) c.interrupt.new.self
          c.alarms.invariant.goes
          (rw c.take_ringing.ensures.left (ap (λ (xs : List Alarm). each (interrupts by_priority c.args.here.now.system.now c.args.here.now.moment) xs c.alarms.self) first.now))
          c.in_ok-interrupt.ensures;
    }

pub alarms-smaller : goal.alarms-smaller
alarms-smaller g c =
    let rings = sym c.take_ringing.ensures.taken ∙ c.in-Some.is in
    let first = first-ringing-is (length c.args.here.now.system.now.notes) c.args.here.now.moment c.in-Some.alarm c.alarms.alarms c.alarms.invariant.are rings in
    rw (c.take_ringing.ensures.left, first.now) (omega arith)

pub interrupt-requires-clause-known : goal.interrupt-requires-clause-known
interrupt-requires-clause-known g c =
    let rings = sym c.take_ringing.ensures.taken ∙ c.in-Some.is in
    (first-ringing-is (length c.args.here.now.system.now.notes) c.args.here.now.moment c.in-Some.alarm c.alarms.alarms c.alarms.invariant.are rings).known

pub returns-clause-makes : goal.returns-clause-makes
returns-clause-makes g c =
    let none = none-ringing c.args.here.now.moment c.alarms.alarms (sym c.take_ringing.ensures.taken ∙ c.in_default.is) in
    goes-end c.args.here.now _ _ c.args.log.now c.alarms.log c.alarms.self c.alarms.invariant.goes
    (ap (λ (xs : List Alarm). each (interrupts by_priority c.args.here.now.system.now c.args.here.now.moment) xs c.alarms.self) none)

pub returns-clause-alarms : goal.returns-clause-alarms
returns-clause-alarms g c =
    let rings = sym c.take_ringing.ensures.taken ∙ c.in_default.is in
    let none = none-ringing c.args.here.now.moment c.alarms.alarms rings in
    c.take_ringing.ensures.left ∙ none-rung c.args.here.now.moment c.alarms.alarms rings ∙ sym (past-none c.args.here.now.moment c.alarms.alarms none) ∙ c.alarms.invariant.left
