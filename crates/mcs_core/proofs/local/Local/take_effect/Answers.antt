use Rattle.std.proofs.Common.{◌≡◌, rules, subst, sym, Option, Some}
use Rattle.mcs_ticks.specs.Queue.{by_priority}
use Rattle.mcs_script.specs.declared.item.Item.{Item}
use Rattle.mcs_script.specs.declared.item.Item.TheVariants.{Signal, Leave}
use Rattle.mcs_core.specs.stored.Parts.{Makes}
use Rattle.mcs_core.specs.Turn.{signals, frees, moves_on, takes_effect}
use Rattle.mcs_core.proofs.Loops.{then-makes}
use Rattle.mcs_core.proofs.local.Local.take_effect.Goals as goal

pub returns-in_ok-move_on-in-Some-Signal-clause-makes : goal.returns-in_ok-move_on-in-Some-Signal-clause-makes
returns-in_ok-move_on-in-Some-Signal-clause-makes g c =
    let its : c.args.item.now ≡ Some (Signal c.in-Some-Signal.note c.in-Some-Signal.badge) = search rules in
    let Follows : Option Item → Type 0 = λ item. Makes g.S.Sink.takes c.args.here.now
    (takes_effect by_priority c.args.here.now.system.now c.args.here.now.core c.args.here.now.moment c.args.thread item c.args.self.now)
    c.move_on.new.self c.args.log.now c.move_on.new.log in
    subst Follows (sym its)
    (then-makes c.args.here.now
    (signals by_priority c.args.here.now.system.now c.args.here.now.core c.args.here.now.moment c.args.thread c.in-Some-Signal.note c.in-Some-Signal.badge c.args.self.now)
    (moves_on c.args.here.now.system.now c.args.here.now.moment c.args.thread)
    c.signal.new.self c.move_on.new.self c.args.log.now c.signal.new.log c.move_on.new.log
    c.in_ok-signal-in-Some-Signal.ensures c.in_ok-move_on-in-Some-Signal.ensures.makes)

pub returns-in_ok-move_on-in-Some-Leave-clause-makes : goal.returns-in_ok-move_on-in-Some-Leave-clause-makes
returns-in_ok-move_on-in-Some-Leave-clause-makes g c =
    let its : c.args.item.now ≡ Some (Leave c.in-Some-Leave.server c.in-Some-Leave.field-0-1) = search rules in
    let Follows : Option Item → Type 0 = λ item. Makes g.S.Sink.takes c.args.here.now
    (takes_effect by_priority c.args.here.now.system.now c.args.here.now.core c.args.here.now.moment c.args.thread item c.args.self.now)
    c.move_on-in-Some-Leave.new.self c.args.log.now c.move_on-in-Some-Leave.new.log in
    subst Follows (sym its)
    (then-makes c.args.here.now
    (frees by_priority c.args.here.now.system.now c.args.here.now.moment c.args.thread c.in-Some-Leave.server c.args.self.now)
    (moves_on c.args.here.now.system.now c.args.here.now.moment c.args.thread)
    c.free.new.self c.move_on-in-Some-Leave.new.self c.args.log.now c.free.new.log c.move_on-in-Some-Leave.new.log
    c.in_ok-free-in-Some-Leave.ensures c.in_ok-move_on-in-Some-Leave.ensures.makes)
