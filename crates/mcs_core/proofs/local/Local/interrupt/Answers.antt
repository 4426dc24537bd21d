use Rattle.mcs_core.specs.stored.Sound.Phase.{PastTick}
use Rattle.mcs_core.proofs.Effects.{wakes_free}
use Rattle.mcs_core.proofs.Systems.{one-each}
use Rattle.mcs_core.proofs.local.Local.interrupt.Goals as goal

pub post-requires-clause-free : goal.post-requires-clause-free
post-requires-clause-free g c =
    wakes_free c.args.here.now.system.now c.args.here.now.core c.args.here.now.moment (one-each c.args.here.now.system.now c.requires.well_formed) PastTick c.args.alarm.note c.args.alarm.badge c.args.self.now
    (rw c.requires.sound.notes c.requires.known) c.requires.sound
