-- A whole turn from its parts, as the code takes them.
use Rattle.std.proofs.Common.{◌≡◌, Bool, ◌+◌, ◌^◌, ◌<◌, ◌≤◌, List, length, refl, subst, None, arith}
use Rattle.std.specs.Prelude.{filter, All}
use Rattle.mcs_ticks.specs.Queue.{by_priority}
use Rattle.mcs_ticks.specs.declared.row.Row.{Row}
use Rattle.mcs_mail.specs.declared.mail.Mail.{Mail}
use Rattle.mcs_control.specs.declared.config.Order.{Order}
use Rattle.mcs_core.specs.Core.{Core}
use Rattle.mcs_core.specs.Alarms.{ringing, alarms_at}
use Rattle.mcs_core.proofs.Ringing.{ringing-known, alarms-are}
use Rattle.mcs_core.specs.Turn.{each, tick, interrupts, arrives, obeys, is_for_now, releases, preempts, chooses, turn}
use Rattle.mcs_core.specs.declared.log.Here.{Here}
use Rattle.mcs_core.specs.declared.log.Log.{Log}
use Rattle.mcs_mail.specs.Box.{arriving}
use Rattle.mcs_core.specs.Orders.{due_now, orders_of, to_come}
use Rattle.mcs_core.specs.stored.Parts.{Makes}
use Rattle.mcs_core.specs.stored.Sound.{IsSound}
use Rattle.mcs_core.specs.stored.Sound.Phase.{Between, PastTick}
use Rattle.mcs_system.specs.WellFormed.{IsWellFormed}
use Rattle.mcs_core.proofs.Loops.{then-makes, known-arriving}
use Rattle.mcs_core.proofs.Plans.{due-of}
use Rattle.mcs_core.proofs.Systems.{one-each, orders-proper, all-noted}
use Rattle.mcs_core.proofs.Ticks.{tick-sound}
use Rattle.mcs_core.proofs.Turning.{interrupts-sound, arrivals-sound, orders-sound, releases-sound, preempts-sound, chooses-sound}

-- the whole turn, from its parts one after another; the orders are those of the agenda
pub whole-turn : {S : Type 0} {takes : S → Row → Bool → S → Type 0} (here : Here) (mails : List Mail) (orders : List Order) (c0 c1 ca c2 c3 c4 c5 c6 : Core) (l0 l1 la l2 l3 l4 l5 l6 : Log S) →
    let system = here.system.now in
    let t = here.moment in
    orders ≡ filter (is_for_now system here.core t) system.orders →
    Makes takes here (tick by_priority system here.core t c0) c1 l0 l1 → Makes takes here (each (interrupts by_priority system t) (ringing t (alarms_at system here.core t)) c1) ca l1 la → Makes takes here (each (arrives by_priority system t) mails ca) c2 la l2 →
    Makes takes here (each (obeys by_priority system t) orders c2) c3 l2 l3 → Makes takes here (releases by_priority system t c3) c4 l3 l4 →
    Makes takes here (preempts by_priority system t c4) c5 l4 l5 → Makes takes here (chooses by_priority system t c5) c6 l5 l6 →
    Makes takes here (turn system here.core t mails c0) c6 l0 l6
whole-turn {S} {takes} here mails orders c0 c1 ca c2 c3 c4 c5 c6 l0 l1 la l2 l3 l4 l5 l6 e ticked rang arrived obeyed released preempted chosen =
    let system = here.system.now in
    let t = here.moment in
    then-makes here _ (chooses by_priority system t) c5 c6 l0 l5 l6
    (then-makes here _ (preempts by_priority system t) c4 c5 l0 l4 l5
    (then-makes here _ (releases by_priority system t) c3 c4 l0 l3 l4
    (then-makes here _ (each (obeys by_priority system t) (filter (is_for_now system here.core t) system.orders)) c2 c3 l0 l2 l3
    (then-makes here _ (each (arrives by_priority system t) mails) ca c2 l0 la l2
    (then-makes here _ (each (interrupts by_priority system t) (ringing t (alarms_at system here.core t))) c1 ca l0 l1 la ticked rang) arrived)
    (let P : List Order → Type 0 = λ (os : List Order). Makes takes here (each (obeys by_priority system t) os c2) c3 l2 l3 in subst P e obeyed))
    released) preempted) chosen

-- what each part leaves is sound
module _ (here : Here) (w : IsWellFormed here.system.now) (soon : here.moment ≤ 2 ^ 40) (c0 c1 : Core) (h : IsSound here.system.now here.core here.moment Between None c0)
    (e1 : c1 ≡ (tick by_priority here.system.now here.core here.moment c0).core) where
  pub ticked-sound : IsSound here.system.now here.core here.moment PastTick None c1
  ticked-sound =
      rw e1 (tick-sound here.system.now here.core here.moment (one-each here.system.now w) here.core here.moment c0 soon (omega arith) (all-noted here.system.now w) h)

  module _ (ca : Core) (ea : ca ≡ (each (interrupts by_priority here.system.now here.moment) (ringing here.moment (alarms_at here.system.now here.core here.moment)) c1).core) where
    pub rang-sound : IsSound here.system.now here.core here.moment PastTick None ca
    rang-sound =
        rw ea (interrupts-sound here.system.now here.core here.moment (one-each here.system.now w) here.moment (ringing here.moment (alarms_at here.system.now here.core here.moment)) c1 soon (omega arith)
        (ringing-known (length here.system.now.notes) here.moment (alarms_at here.system.now here.core here.moment) (alarms-are here.system.now here.core w here.moment)) ticked-sound)

    module _ (mails : List Mail) (c2 : Core) (k : All (λ (mail : Mail). mail.note < length here.system.now.notes) mails) (e2 : c2 ≡ (each (arrives by_priority here.system.now here.moment) (arriving here.moment mails) ca).core) where
      pub arrived-sound : IsSound here.system.now here.core here.moment PastTick None c2
      arrived-sound =
          rw e2 (arrivals-sound here.system.now here.core here.moment (one-each here.system.now w) here.moment (arriving here.moment mails) ca soon (omega arith)
          (known-arriving here.moment (length here.system.now.notes) mails k) rang-sound)

      module _ (agenda : List Order) (c3 : Core) (p : agenda ≡ to_come here.moment (orders_of here.system.now here.core)) (e3 : c3 ≡ (each (obeys by_priority here.system.now here.moment) (due_now here.moment agenda) c2).core) where
        pub obeyed-sound : IsSound here.system.now here.core here.moment PastTick None c3
        obeyed-sound =
            rw (e3, p, due-of here.system.now here.core here.moment)
            (orders-sound here.system.now here.core here.moment (one-each here.system.now w) here.moment here.system.now.orders c2 soon (omega arith) (orders-proper here.system.now w) arrived-sound)

        module _ (c4 : Core) (e4 : c4 ≡ (releases by_priority here.system.now here.moment c3).core) where
          pub released-sound : IsSound here.system.now here.core (here.moment + 1) PastTick None c4
          released-sound = rw e4 (releases-sound here.system.now here.core (one-each here.system.now w) here.moment soon _ c3 refl obeyed-sound)

          module _ (c5 : Core) (e5 : c5 ≡ (preempts by_priority here.system.now here.moment c4).core) where
            pub preempted-sound : IsSound here.system.now here.core (here.moment + 1) PastTick None c5
            preempted-sound = rw e5 (preempts-sound here.system.now here.core (one-each here.system.now w) here.moment soon c4 released-sound)

            pub chosen-sound : {S : Type 0} {takes : S → Row → Bool → S → Type 0} (c6 : Core) (l5 l6 : Log S) → Makes takes here (chooses by_priority here.system.now here.moment c5) c6 l5 l6 →
                IsSound here.system.now here.core (here.moment + 1) Between None c6
            chosen-sound c6 l5 l6 made = rw made.core (chooses-sound here.system.now here.core (one-each here.system.now w) here.moment soon c5 preempted-sound)
