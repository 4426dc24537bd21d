use Rattle.std.proofs.Common.{arith}
use Rattle.mcs_ticks.specs.Queue.{by_priority}
use Rattle.mcs_core.specs.Core.{thread_of}
use Rattle.mcs_core.specs.Turn.{item_of, takes_effect, after_item, may_stop}
use Rattle.mcs_core.proofs.Effects.{can_take_effect, can_stop_after}
use Rattle.mcs_core.proofs.Loops.{then-makes}
use Rattle.mcs_core.proofs.Runs.{on_ok-map}
use Rattle.mcs_core.proofs.Systems.{one-each, all-noted, has-delays}
use Rattle.mcs_core.proofs.local.Local.finish.Goals as goal

pub finish_item-requires-clause-can : goal.finish_item-requires-clause-can
finish_item-requires-clause-can g c =
    can_take_effect c.args.here.now.system.now c.args.here.now.core c.args.here.now.moment (one-each c.args.here.now.system.now c.requires.well_formed) c.args.here.now.moment (record { thread = c.args.thread; using = c.args.used })
    (item_of c.args.here.now.system.now c.args.thread c.args.self.now) c.args.self.now c.requires.soon (omega arith)
    (all-noted c.args.here.now.system.now c.requires.well_formed c.args.thread (thread_of c.args.self.now c.args.thread).place.item) c.requires.sound c.requires.running

pub finish_item-requires-clause-delays : goal.finish_item-requires-clause-delays
finish_item-requires-clause-delays g c = has-delays c.args.here.now c.requires.well_formed c.requires.delays

pub may_stop-requires : goal.may_stop-requires
may_stop-requires g c =
    rw c.in_ok-after.ensures.makes.core
    (can_stop_after c.args.here.now.system.now c.args.here.now.core c.args.here.now.moment (one-each c.args.here.now.system.now c.requires.well_formed) c.args.here.now.moment (record { thread = c.args.thread; using = c.args.used })
    (item_of c.args.here.now.system.now c.args.thread c.args.self.now) c.args.self.now c.requires.soon (omega arith)
    (all-noted c.args.here.now.system.now c.requires.well_formed c.args.thread (thread_of c.args.self.now c.args.thread).place.item) c.requires.sound c.requires.running)

pub returns : goal.returns
returns g c =
    on_ok-map _ _ c.may_stop.result
    (then-makes c.args.here.now
    (takes_effect by_priority c.args.here.now.system.now c.args.here.now.core c.args.here.now.moment c.args.thread (item_of c.args.here.now.system.now c.args.thread c.args.self.now) c.args.self.now)
    (may_stop by_priority c.args.here.now.system.now c.args.here.now.moment c.args.thread c.args.used (after_item c.args.here.now.system.now c.args.thread (item_of c.args.here.now.system.now c.args.thread c.args.self.now) c.args.self.now))
    c.finish_item.new.self c.may_stop.new.self c.args.log.now c.finish_item.new.log c.may_stop.new.log c.in_ok-after.ensures.makes)
    (rw (← c.in_ok-after.ensures.after) c.may_stop.ensures)
