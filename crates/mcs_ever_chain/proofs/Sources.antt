-- An interrupt's notification is that of its source.
use Rattle.std.proofs.Common.{◌≡◌, ℕ, zero, suc, ◌+◌, Bool, true, false, cond, List, [], ◌∷◌, ◌++◌, map, filter, refl}
use Rattle.std.specs.Prelude.{◌==◌, not, nat_lt, Option, Some, None}
use Rattle.std.specs.List.{AllByRecursion}
use Rattle.mcs_ticks.specs.Queue.{Discipline, in_one_list}
use Rattle.mcs_ticks.specs.declared.queue.Queued.{Queued}
use Rattle.mcs_ticks.specs.declared.row.What.{What}
use Rattle.mcs_ticks.specs.declared.row.Why.TheVariants as why
use Rattle.mcs_control.specs.declared.config.Order.{Order}
use Rattle.mcs_control.specs.Context.{head_amount}
use Rattle.mcs_notify.specs.Note.{posted, waited}
use Rattle.mcs_notify.specs.declared.posted.Posted.{Posted}
use Rattle.mcs_notify.specs.declared.posted.Posted.TheVariants.{Woke, Held}
use Rattle.mcs_notify.specs.declared.posted.Waited.{Waited}
use Rattle.mcs_notify.specs.declared.posted.Waited.TheVariants.{Got, Blocks}
use Rattle.mcs_script.specs.declared.item.Item.{Item}
use Rattle.mcs_script.specs.declared.item.Item.TheVariants.{Compute, Signal, Wait, Yield, On, Spin, Enter, Leave}
use Rattle.mcs_script.specs.declared.moved.Moved.{Moved}
use Rattle.mcs_script.specs.declared.moved.Moved.TheVariants.{Next, RoundEnds, AllDone}
use Rattle.mcs_mail.specs.declared.mail.Mail.{Mail}
use Rattle.mcs_release.specs.declared.dated.Dated.{Dated}
use Rattle.mcs_release.specs.Release.{is_due}
use Rattle.mcs_system.specs.declared.part.Beat.{Beat}
use Rattle.mcs_system.specs.System.{System, note_part, source_part}
use Rattle.mcs_core.specs.Alarms.{alarm_of, is_at_home, rung, rings, ringing, past, before_moment, alarms_at}
use Rattle.mcs_core.specs.declared.alarm.Alarm.{Alarm}
use Rattle.mcs_core.specs.declared.standing.AfterItem.{AfterItem}
use Rattle.mcs_core.specs.declared.standing.AfterItem.TheVariants as after
use Rattle.mcs_core.specs.declared.standing.Chosen.{Chosen}
use Rattle.mcs_core.specs.Core.{Core, note_of, thread_of}
use Rattle.mcs_core.specs.Turn as turns
use Rattle.mcs_core.specs.Turn.{Turn, each, is_for_now}
use Rattle.mcs_core.specs.Clock as clocks
use Rattle.mcs_ever_chain.proofs.Outside.{IsOfSource}

module _ (system : System) where
  abbrev All : List What → Type 0
  All rows = AllByRecursion (IsOfSource system) rows

  all-then : (xs ys : List What) → All xs → All ys → All (xs ++ ys)
  all-then [] ys p q = q
  all-then (x ∷ xs) ys p q = (p.0, all-then xs ys p.1 q)

  -- the rows of a turn that is chosen by a test
  test : (b : Bool) (u v : Turn) → All u.rows → All v.rows → All (cond b u v).rows
  test true u v p q = p
  test false u v p q = q

  all-each : {A : Type 0} (part : A → Core → Turn) → ((x : A) (k : Core) → All (part x k).rows) → (xs : List A) (k : Core) → All (each part xs k).rows
  all-each part h [] k = tt
  all-each part h (x ∷ xs) k = all-then (part x k).rows (each part xs (part x k).core).rows (h x k) (all-each part h xs (part x k).core)

  -- an alarm is for the notification of its source
  abbrev AreFor : List Alarm → Type 0
  AreFor alarms = AllByRecursion (λ (alarm : Alarm). alarm.note ≡ (source_part system alarm.source).note) alarms

  first-for : (c : ℕ) (beats : List Beat) → AreFor (map (alarm_of system) (filter (is_at_home system c) beats))
  first-for c [] = tt
  first-for c (beat ∷ beats) = by (is_at_home system c beat) (first-for c beats)
    where
      by : (b : Bool) → AreFor (map (alarm_of system) (filter (is_at_home system c) beats))
          → AreFor (map (alarm_of system) (cond b (beat ∷ filter (is_at_home system c) beats) (filter (is_at_home system c) beats)))
      by true rest = (refl, rest)
      by false rest = rest

  past-for : (t : ℕ) (alarms : List Alarm) → AreFor alarms → AreFor (past t alarms)
  past-for t [] h = tt
  past-for t (alarm ∷ alarms) h = (by (rings t alarm), past-for t alarms h.1)
    where
      by : (b : Bool) → (cond b (rung alarm) alarm).note ≡ (source_part system (cond b (rung alarm) alarm).source).note
      by true = h.0
      by false = h.0

  before-for : (t : ℕ) (alarms : List Alarm) → AreFor alarms → AreFor (before_moment t alarms)
  before-for zero alarms h = h
  before-for (suc t) alarms h = past-for t (before_moment t alarms) (before-for t alarms h)

  ringing-for : (t : ℕ) (alarms : List Alarm) → AreFor alarms → AreFor (ringing t alarms)
  ringing-for t [] h = tt
  ringing-for t (alarm ∷ alarms) h = by (rings t alarm) (ringing-for t alarms h.1)
    where
      by : (b : Bool) → AreFor (ringing t alarms) → AreFor (cond b (alarm ∷ ringing t alarms) (ringing t alarms))
      by true rest = (h.0, rest)
      by false rest = rest

  -- part by part
  module _ (queue : Discipline) (c t : ℕ) where
    all-moves : (x : ℕ) (m : Moved) (k : Core) → All (turns.moves system t x m k).rows
    all-moves x Next k = tt
    all-moves x RoundEnds k = (tt, tt)
    all-moves x AllDone k = (tt, tt)

    all-moves_on : (x : ℕ) (k : Core) → All (turns.moves_on system t x k).rows
    all-moves_on x k = all-moves x (turns.move_of system x k) k

    all-resumes : (x : ℕ) (k : Core) → All (turns.resumes queue system t x k).rows
    all-resumes x k = all-then (turns.moves_on system t x k).rows [] (all-moves_on x k) tt

    all-let_in : (x : ℕ) (k : Core) → All (turns.let_in queue system t x k).rows
    all-let_in x k =
        all-then (turns.moves_on system t x (turns.with_woken_context system t x k)).rows [] (all-moves_on x (turns.with_woken_context system t x k)) tt

    all-posts_as : (note : ℕ) (post : Posted) (k : Core) → All (turns.posts_as queue system t note post k).rows
    all-posts_as note (Woke x word) k = (tt, all-resumes x _)
    all-posts_as note (Held word) k = (tt, tt)

    all-posts : (note badge : ℕ) (k : Core) → All (turns.posts queue system t note badge k).rows
    all-posts note badge k = all-posts_as note (posted badge (note_of k note)) k

    all-frees_as : (server : ℕ) (post : Posted) (k : Core) → All (turns.frees_as queue system t server post k).rows
    all-frees_as server (Woke x word) k = (tt, all-let_in x _)
    all-frees_as server (Held word) k = tt

    all-frees : (x server : ℕ) (k : Core) → All (turns.frees queue system t x server k).rows
    all-frees x server k = (tt, all-frees_as server (posted 1 (note_of k server)) k)

    all-signals : (x note badge : ℕ) (k : Core) → All (turns.signals queue system c t x note badge k).rows
    all-signals x note badge k = (
      tt,
      test ((note_part system note).core == c) (turns.posts queue system t note badge k)
          (record { core = k; rows = []; mails = turns.mail_to system c t note badge ∷ [] }) (all-posts note badge k) tt,
    )

    all-waits : (x note : ℕ) (w : Waited) (k : Core) → All (turns.waits_as system t x note w k).rows
    all-waits x note (Got word) k = (tt, all-moves_on x _)
    all-waits x note Blocks k = tt

    all-enters : (x server : ℕ) (w : Waited) (k : Core) → All (turns.enters_as system t x server w k).rows
    all-enters x server (Got word) k = (tt, all-moves_on x _)
    all-enters x server Blocks k = tt

    all-effect : (x : ℕ) (item : Option Item) (k : Core) → All (turns.takes_effect queue system c t x item k).rows
    all-effect x (Some (Signal note badge)) k =
        let made = turns.signals queue system c t x note badge k in
        all-then made.rows (turns.moves_on system t x made.core).rows (all-signals x note badge k) (all-moves_on x made.core)
    all-effect x (Some (Wait note)) k = all-waits x note (waited (note_of k note)) k
    all-effect x (Some (Compute ticks)) k = all-moves_on x k
    all-effect x (Some Yield) k = all-moves_on x k
    all-effect x (Some (On badges)) k = all-moves_on x k
    all-effect x (Some Spin) k = all-moves_on x k
    all-effect x (Some (Enter server priority)) k = all-enters x server (waited (note_of k server)) k
    all-effect x (Some (Leave server priority)) k =
        let made = turns.frees queue system t x server k in
        all-then made.rows (turns.moves_on system t x made.core).rows (all-frees x server k) (all-moves_on x made.core)
    all-effect x None k = tt

    all-stops : (x using : ℕ) (cause : AfterItem) (k : Core) → All (turns.may_stop queue system t x using cause k).rows
    all-stops x using after.Ends k = (tt, tt)
    all-stops x using after.Blocks k = (tt, tt)
    all-stops x using after.Calls k = (tt, tt)
    all-stops x using after.Yields k = (tt, tt)
    all-stops x using after.GoesOn k =
        test (using == head_amount (turns.its_context system x k)) (turns.stops_to_back queue system t x why.Spent using k) (turns.silent k) (tt, tt) tt

    all-tick : (o : Option Chosen) (k : Core) → All (turns.tick_of queue system c t o k).rows
    all-tick None k = tt
    all-tick (Some chosen) k =
        let x = chosen.thread in
        let using = chosen.using + 1 in
        let counted = turns.counts chosen k in
        let item = turns.item_of system x counted in
        let made = turns.takes_effect queue system c t x item counted in
        test ((thread_of counted x).place.left == 0) (turns.finishes queue system c t x using item counted)
        (turns.may_stop queue system t x using after.GoesOn counted)
        (all-then made.rows (turns.may_stop queue system t x using (turns.after_item system x item counted) made.core).rows (all-effect x item counted)
        (all-stops x using (turns.after_item system x item counted) made.core))
        (all-stops x using after.GoesOn counted)

    all-interrupts : (alarms : List Alarm) (k : Core) → AreFor alarms → All (each (turns.interrupts queue system t) alarms k).rows
    all-interrupts [] k h = tt
    all-interrupts (alarm ∷ alarms) k h =
        let made = turns.interrupts queue system t alarm k in
        all-then made.rows (each (turns.interrupts queue system t) alarms made.core).rows (h.0, all-posts alarm.note alarm.badge k)
        (all-interrupts alarms made.core h.1)

    all-obeys : (order : Order) (k : Core) → All (turns.obeys queue system t order k).rows
    all-obeys order k = (tt, by k.running)
      where
        by : (o : Option Chosen) → All (turns.orders_running queue system t order o k).rows
        by None = tt
        by (Some chosen) =
            test ((turns.part_of system chosen.thread).context == order.context)
            (turns.stops_to_front queue system t chosen.thread why.Order chosen.using (turns.applied t order (turns.charged system chosen.thread chosen.using k)))
            (turns.silent (turns.applied t order k)) (tt, tt) tt

    all-preempts : (o : Option Chosen) (best : Option Queued) (k : Core) → All (turns.preempts_by queue system t o best k).rows
    all-preempts None best k = tt
    all-preempts (Some chosen) None k = tt
    all-preempts (Some chosen) (Some best) k =
        test (nat_lt (thread_of k chosen.thread).place.priority best.priority)
        (turns.stops_to_front queue system t chosen.thread why.Preempt chosen.using (turns.charged system chosen.thread chosen.using k)) (turns.silent k) (tt, tt) tt

    all-chooses : (o : Option Chosen) (best : Option Queued) (k : Core) → All (turns.chooses_of queue system t o best k).rows
    all-chooses (Some chosen) best k = tt
    all-chooses None None k = tt
    all-chooses None (Some best) k = (tt, tt)

    all-turn : (mails : List Mail) (k : Core) → All (turns.turn_with queue system c t mails k).rows
    all-turn mails k =
        let ticked = turns.tick queue system c t k in
        let rang = each (turns.interrupts queue system t) (ringing t (alarms_at system c t)) ticked.core in
        let came = each (turns.arrives queue system t) mails rang.core in
        let obeyed = each (turns.obeys queue system t) (filter (is_for_now system c t) system.orders) came.core in
        let freed = turns.releases queue system t obeyed.core in
        let gave = turns.preempts queue system t freed.core in
        let chosen = turns.chooses queue system t gave.core in
        all-then (ticked.rows ++ rang.rows ++ came.rows ++ obeyed.rows ++ freed.rows ++ gave.rows) chosen.rows
        (all-then (ticked.rows ++ rang.rows ++ came.rows ++ obeyed.rows ++ freed.rows) gave.rows
        (all-then (ticked.rows ++ rang.rows ++ came.rows ++ obeyed.rows) freed.rows
        (all-then (ticked.rows ++ rang.rows ++ came.rows) obeyed.rows
        (all-then (ticked.rows ++ rang.rows) came.rows
        (all-then ticked.rows rang.rows (all-tick k.running k)
        (all-interrupts (ringing t (alarms_at system c t)) ticked.core
        (ringing-for t (alarms_at system c t) (before-for t (map (alarm_of system) (filter (is_at_home system c) system.beats)) (first-for c system.beats)))))
        (all-each (turns.arrives queue system t) (λ mail core. (tt, all-posts mail.note mail.badge core)) mails rang.core))
        (all-each (turns.obeys queue system t) all-obeys (filter (is_for_now system c t) system.orders) came.core))
        (all-each (turns.released queue) (λ due core. (tt, tt)) (filter (is_due t) obeyed.core.releases)
        (record (obeyed.core) { releases = filter (λ (dated : Dated). not (is_due t dated)) obeyed.core.releases })))
        (all-preempts freed.core.running (queue.best freed.core.ready) freed.core))
        (all-chooses gave.core.running (queue.best gave.core.ready) gave.core)

pub rows-of-source : (system : System) (c t : ℕ) → AllByRecursion (IsOfSource system) (clocks.turn_of system c t).rows
rows-of-source system c t =
    all-turn system in_one_list c t (filter (clocks.arrives_at system t c) (clocks.world system t).mails) (clocks.core_at system (clocks.world system t) c)
