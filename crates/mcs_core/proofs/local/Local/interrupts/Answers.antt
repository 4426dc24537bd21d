use Rattle.std.proofs.Common.{◌≡◌, ℕ, List, [], refl, sym, ap, subst}
use Rattle.std.specs.Prelude.{Option, not}
use Rattle.mcs_ticks.specs.Queue.{by_priority}
use Rattle.mcs_ticks.specs.Soonest.{HasCome}
use Rattle.mcs_core.specs.declared.alarm.Alarm.{Alarm}
use Rattle.mcs_core.specs.Alarms.{ringing}
use Rattle.mcs_core.specs.Turn.{each, interrupts}
use Rattle.mcs_core.specs.stored.Parts.{Makes}
use Rattle.mcs_core.proofs.Ends.{not-come}
use Rattle.mcs_core.proofs.Loops.{no-adds}
use Rattle.mcs_core.proofs.Ringing.{none-come, none-ringing, past-none}
use Rattle.mcs_core.proofs.local.Local.interrupts.Goals as goal

none : (g : _) (c : goal.Then-not-has_come g) → ringing c.args.here.now.moment c.args.alarms.now ≡ []
none g c =
    let P : Option ℕ → Type 0 = HasCome c.args.here.now.moment in
    none-ringing c.args.here.now.moment c.args.alarms.now
    (none-come c.args.here.now.moment c.args.alarms.now (λ h. not-come c.has_come.result _ c.has_come.ensures (ap not c.if-not-has_come.true) (subst P (sym c.next.ensures) h)))

pub returns-then-not-has_come-clause-makes : goal.returns-then-not-has_come-clause-makes
returns-then-not-has_come-clause-makes g c =
    let P : List Alarm → Type 0 = λ alarms. Makes g.S.Sink.takes c.args.here.now (each (interrupts by_priority c.args.here.now.system.now c.args.here.now.moment) alarms c.args.self.now) c.args.self.now c.args.log.now c.args.log.now in
    subst P (sym (none g c)) (record { core = refl; adds = no-adds c.args.here.now c.args.log.now })

pub returns-then-not-has_come-clause-alarms : goal.returns-then-not-has_come-clause-alarms
returns-then-not-has_come-clause-alarms g c = sym (past-none c.args.here.now.moment c.args.alarms.now (none g c))
