-- The signals of a turn are those of its rows, part by part. The rows before a moment therefore
-- show the signals under way then.
use Rattle.std.proofs.Common.{◌≡◌, ℕ, ◌+◌, Bool, true, false, cond, List, [], ◌∷◌, ◌++◌, Option, Some, None, refl, sym, ap, ◌∙◌, arith}
use Rattle.std.specs.Prelude.{◌==◌, nat_lt, filter, filter_map}
use Rattle.std.specs.List.{cons_option, slice_get}
use Rattle.std.proofs.lemmas.Bool.Decides.{nat_tests}
use Rattle.std.proofs.lemmas.List.Elements.{filter_map-append}
use Rattle.mcs_ticks.specs.Queue.{Discipline}
use Rattle.mcs_ticks.specs.declared.queue.Queued.{Queued}
use Rattle.mcs_ticks.specs.declared.row.What.{What}
use Rattle.mcs_ticks.specs.declared.row.What.TheVariants as row
use Rattle.mcs_control.specs.declared.config.Order.{Order}
use Rattle.mcs_control.specs.Context.{head_amount}
use Rattle.mcs_notify.specs.Note.{posted, after_post, waited, after_wait}
use Rattle.mcs_notify.specs.declared.posted.Posted.{Posted}
use Rattle.mcs_notify.specs.declared.posted.Posted.TheVariants.{Woke, Held}
use Rattle.mcs_notify.specs.declared.posted.Waited.{Waited}
use Rattle.mcs_notify.specs.declared.posted.Waited.TheVariants.{Got, Blocks}
use Rattle.mcs_script.specs.declared.item.Item.{Item}
use Rattle.mcs_script.specs.declared.item.Item.TheVariants.{Compute, Signal, Wait, Yield, On, Spin, Enter, Leave}
use Rattle.mcs_script.specs.declared.moved.Moved.{Moved}
use Rattle.mcs_script.specs.declared.moved.Moved.TheVariants.{Next, RoundEnds, AllDone}
use Rattle.mcs_mail.specs.declared.mail.Mail.{Mail}
use Rattle.mcs_system.specs.System.{System, note_part, thread_part}
use Rattle.mcs_core.specs.Core.{Core, thread_of, note_of, with_note}
use Rattle.mcs_core.specs.Alarms.{ringing, alarms_at}
use Rattle.mcs_core.specs.declared.alarm.Alarm.{Alarm}
use Rattle.mcs_core.specs.declared.standing.AfterItem.{AfterItem}
use Rattle.mcs_core.specs.declared.standing.AfterItem.TheVariants as after
use Rattle.mcs_core.specs.declared.standing.Chosen.{Chosen}
use Rattle.mcs_release.specs.Release.{is_due}
use Rattle.mcs_core.specs.Turn as turns
use Rattle.mcs_core.specs.Turn.{Turn, each, silent, says, ◌followed_by◌, is_for_now, stamped}
use Rattle.mcs_ever_again.specs.UnderWay.{mail_told, told_mails}

module _ (queue : Discipline) (system : System) (c t : ℕ) where
  abbrev told : List What → List Mail
  told whats = filter_map (mail_told system c t) whats

  -- a part of a turn whose rows tell its signals
  abbrev Tells : Turn → Type 0
  Tells made = made.mails ≡ told made.rows

  tells-then : (first : Turn) (part : Core → Turn) → Tells first → ((k : Core) → Tells (part k)) → Tells (first followed_by part)
  tells-then first part f h = both _ _ _ _ f (h first.core) ∙ sym (filter_map-append (mail_told system c t) first.rows (part first.core).rows)
    where
      both : (xs ys us vs : List Mail) → xs ≡ ys → us ≡ vs → xs ++ us ≡ ys ++ vs
      both xs ys us vs e g = cc

  tells-each : {A : Type 0} (part : A → Core → Turn) → ((y : A) (k : Core) → Tells (part y k)) → (ys : List A) (core : Core) → Tells (each part ys core)
  tells-each part h [] core = refl
  tells-each part h (y ∷ ys) core = tells-then (part y core) (each part ys) (h y core) (λ k. tells-each part h ys k)

  tells-either : (b : Bool) (u v : Turn) → Tells u → Tells v → Tells (cond b u v)
  tells-either true u v p q = p
  tells-either false u v p q = q

  moves-tells : (y : ℕ) (m : Moved) (core : Core) → Tells (turns.moves system t y m core)
  moves-tells y Next core = refl
  moves-tells y RoundEnds core = refl
  moves-tells y AllDone core = refl

  moves_on-tells : (y : ℕ) (core : Core) → Tells (turns.moves_on system t y core)
  moves_on-tells y core = moves-tells y (turns.move_of system y core) core

  wakes-tells : (y word : ℕ) (core : Core) → Tells (turns.wakes queue system t y word core)
  wakes-tells y word core =
      tells-then (turns.moves_on system t y (turns.given system t y word (turns.with_woken_context system t y core)))
      (λ k. silent (turns.enters_back queue y (turns.date_of system t y k) k))
      (moves_on-tells y (turns.given system t y word (turns.with_woken_context system t y core))) (λ k. refl)

  posts_as-tells : (note : ℕ) (p : Posted) (core : Core) → Tells (turns.posts_as queue system t note p core)
  posts_as-tells note (Woke y word) core =
      tells-then (says (row.Wake y note word (turns.woken_until system t y core)) (with_note note (after_post (Woke y word) (note_of core note)) core)) (turns.wakes queue system t y word)
      refl (λ k. wakes-tells y word k)
  posts_as-tells note (Held word) core = refl

  posts-tells : (note badge : ℕ) (core : Core) → Tells (turns.posts queue system t note badge core)
  posts-tells note badge core = posts_as-tells note (posted badge (note_of core note)) core

  -- leaving a server at home is a post on this core
  let_in-tells : (y : ℕ) (core : Core) → Tells (turns.let_in queue system t y core)
  let_in-tells y core =
      tells-then (turns.moves_on system t y (turns.with_woken_context system t y core))
      (λ k. silent (turns.enters_front queue y (turns.date_of system t y k) k))
      (moves_on-tells y (turns.with_woken_context system t y core)) (λ k. refl)

  frees_as-tells : (server : ℕ) (p : Posted) (core : Core) → Tells (turns.frees_as queue system t server p core)
  frees_as-tells server (Woke y word) core =
      tells-then (says (row.Wake y server word (turns.woken_until system t y core)) (with_note server (after_post (Woke y word) (note_of core server)) core)) (turns.let_in queue system t y)
      refl (λ k. let_in-tells y k)
  frees_as-tells server (Held word) core = refl

  frees-tells : (y server : ℕ) (core : Core) → (note_part system server).core ≡ c → Tells (turns.frees queue system t y server core)
  frees-tells y server core home =
      frees_as-tells server (posted 1 (note_of core server)) core
      ∙ ap (λ b. cons_option (cond b None (Some (turns.mail_to system c t server 1))) (told (turns.frees_as queue system t server (posted 1 (note_of core server)) core).rows)) (sym (same (note_part system server).core c home))
    where
      same : (a b : ℕ) → a ≡ b → (a == b) ≡ true
      same a b e = grind (arith, nat_tests)

  -- the part whose row makes a signal for another core; a signal for the core's own notification is
  -- a post
  signals-tells : (y note badge : ℕ) (core : Core) → Tells (turns.signals queue system c t y note badge core)
  signals-tells y note badge core = by ((note_part system note).core == c) (turns.posts queue system t note badge core) (posts-tells note badge core)
    where
      sent : Turn
      sent = record { core = core; rows = []; mails = turns.mail_to system c t note badge ∷ [] }

      by : (b : Bool) (posts : Turn) → Tells posts →
          (cond b posts sent).mails
          ≡ cons_option (cond b None (Some (turns.mail_to system c t note badge))) (told (cond b posts sent).rows)
      by true posts h = h
      by false posts h = refl

  waits_as-tells : (y note : ℕ) (w : Waited) (core : Core) → Tells (turns.waits_as system t y note w core)
  waits_as-tells y note (Got word) core =
      tells-then (says (row.Got y note word) (turns.given system t y word (with_note note (after_wait (Got word) (turns.queued y core) (note_of core note)) core)))
      (turns.moves_on system t y) refl (λ k. moves_on-tells y k)
  waits_as-tells y note Blocks core = refl

  enters_as-tells : (y server : ℕ) (w : Waited) (core : Core) → Tells (turns.enters_as system t y server w core)
  enters_as-tells y server (Got word) core =
      tells-then (says (row.Got y server word) (with_note server (after_wait (Got word) (turns.queued y core) (note_of core server)) core))
      (turns.moves_on system t y) refl (λ k. moves_on-tells y k)
  enters_as-tells y server Blocks core = refl

  -- each server that the thread may leave is at home
  abbrev LeavesAtHome : ℕ → Type 0
  LeavesAtHome y = (i server priority : ℕ) → slice_get (thread_part system y).script i ≡ Some (Leave server priority) → (note_part system server).core ≡ c

  takes_effect-tells : (y i : ℕ) (item : Option Item) (core : Core) → slice_get (thread_part system y).script i ≡ item → LeavesAtHome y → Tells (turns.takes_effect queue system c t y item core)
  takes_effect-tells y i (Some (Signal note badge)) core e h =
      tells-then (turns.signals queue system c t y note badge core) (turns.moves_on system t y) (signals-tells y note badge core) (λ k. moves_on-tells y k)
  takes_effect-tells y i (Some (Wait note)) core e h = waits_as-tells y note (waited (note_of core note)) core
  takes_effect-tells y i (Some (Compute ticks)) core e h = moves_on-tells y core
  takes_effect-tells y i (Some Yield) core e h = moves_on-tells y core
  takes_effect-tells y i (Some (On badges)) core e h = moves_on-tells y core
  takes_effect-tells y i (Some Spin) core e h = moves_on-tells y core
  takes_effect-tells y i (Some (Enter server priority)) core e h = enters_as-tells y server (waited (note_of core server)) core
  takes_effect-tells y i (Some (Leave server priority)) core e h =
      tells-then (turns.frees queue system t y server core) (turns.moves_on system t y) (frees-tells y server core (h i server priority e)) (λ k. moves_on-tells y k)
  takes_effect-tells y i None core e h = refl

  may_stop-tells : (y using : ℕ) (cause : AfterItem) (core : Core) → Tells (turns.may_stop queue system t y using cause core)
  may_stop-tells y using after.Ends core = refl
  may_stop-tells y using after.Blocks core = refl
  may_stop-tells y using after.Calls core = refl
  may_stop-tells y using after.Yields core = refl
  may_stop-tells y using after.GoesOn core =
      tells-either (using == head_amount (turns.its_context system y core)) _ (silent core) refl refl

  after_count-tells : (y using : ℕ) (core : Core) → LeavesAtHome y → Tells (turns.after_count queue system c t y using core)
  after_count-tells y using core h =
      tells-either ((thread_of core y).place.left == 0)
      (turns.finishes queue system c t y using (turns.item_of system y core) core) (turns.may_stop queue system t y using after.GoesOn core)
      (
      tells-then (turns.takes_effect queue system c t y (turns.item_of system y core) core)
      (turns.may_stop queue system t y using (turns.after_item system y (turns.item_of system y core) core))
      (takes_effect-tells y (thread_of core y).place.item (turns.item_of system y core) core refl h)
      (λ k. may_stop-tells y using (turns.after_item system y (turns.item_of system y core) core) k)
      )
      (may_stop-tells y using after.GoesOn core)

  tick_of-tells : (o : Option Chosen) (core : Core) → ((chosen : Chosen) → o ≡ Some chosen → LeavesAtHome chosen.thread) → Tells (turns.tick_of queue system c t o core)
  tick_of-tells None core h = refl
  tick_of-tells (Some chosen) core h = after_count-tells chosen.thread (chosen.using + 1) (turns.counts chosen core) (h chosen refl)

  interrupts-tells : (alarm : Alarm) (core : Core) → Tells (turns.interrupts queue system t alarm core)
  interrupts-tells alarm core =
      tells-then (says (row.Interrupt alarm.source alarm.note alarm.badge) core) (turns.posts queue system t alarm.note alarm.badge)
      refl (λ k. posts-tells alarm.note alarm.badge k)

  arrives-tells : (mail : Mail) (core : Core) → Tells (turns.arrives queue system t mail core)
  arrives-tells mail core =
      tells-then (says (row.Arrive mail.note mail.badge mail.maker) core) (turns.posts queue system t mail.note mail.badge)
      refl (λ k. posts-tells mail.note mail.badge k)

  orders_running-tells : (order : Order) (o : Option Chosen) (core : Core) → Tells (turns.orders_running queue system t order o core)
  orders_running-tells order None core = refl
  orders_running-tells order (Some chosen) core =
      tells-either ((turns.part_of system chosen.thread).context == order.context) _ (silent (turns.applied t order core)) refl refl

  obeys-tells : (order : Order) (core : Core) → Tells (turns.obeys queue system t order core)
  obeys-tells order core =
      tells-then (says (row.Order order.context) core) (turns.orders_running queue system t order core.running)
      refl (λ k. orders_running-tells order core.running k)

  releases-tells : (core : Core) → Tells (turns.releases queue system t core)
  releases-tells core = tells-each (turns.released queue) (λ due k. refl) (filter (is_due t) core.releases) _

  preempts_by-tells : (o : Option Chosen) (best : Option Queued) (core : Core) → Tells (turns.preempts_by queue system t o best core)
  preempts_by-tells (Some chosen) (Some best) core =
      tells-either (nat_lt (thread_of core chosen.thread).place.priority best.priority) _ (silent core) refl refl
  preempts_by-tells (Some chosen) None core = refl
  preempts_by-tells None best core = refl

  chooses_of-tells : (o : Option Chosen) (best : Option Queued) (core : Core) → Tells (turns.chooses_of queue system t o best core)
  chooses_of-tells (Some chosen) best core = refl
  chooses_of-tells None None core = refl
  chooses_of-tells None (Some best) core = refl

  pub turn-tells : (mails : List Mail) (core : Core) → ((chosen : Chosen) → core.running ≡ Some chosen → LeavesAtHome chosen.thread) → Tells (turns.turn_with queue system c t mails core)
  turn-tells mails core h =
      tells-then preempted (turns.chooses queue system t)
      (
      tells-then released (turns.preempts queue system t)
      (
      tells-then ordered (turns.releases queue system t)
      (
      tells-then arrived (each (turns.obeys queue system t) orders)
      (
      tells-then rung (each (turns.arrives queue system t) mails)
      (
      tells-then (turns.tick queue system c t core) (each (turns.interrupts queue system t) (ringing t (alarms_at system c t)))
      (tick_of-tells core.running core h)
      (λ k. tells-each (turns.interrupts queue system t) interrupts-tells (ringing t (alarms_at system c t)) k)
      )
      (λ k. tells-each (turns.arrives queue system t) arrives-tells mails k)
      )
      (λ k. tells-each (turns.obeys queue system t) obeys-tells orders k)
      )
      releases-tells
      )
      (λ k. preempts_by-tells k.running (queue.best k.ready) k)
      )
      (λ k. chooses_of-tells k.running (queue.best k.ready) k)
    where
      orders : List Order
      orders = filter (is_for_now system c t) system.orders

      rung : Turn
      rung = turns.tick queue system c t core followed_by each (turns.interrupts queue system t) (ringing t (alarms_at system c t))

      arrived : Turn
      arrived = rung followed_by each (turns.arrives queue system t) mails

      ordered : Turn
      ordered = arrived followed_by each (turns.obeys queue system t) orders

      released : Turn
      released = ordered followed_by turns.releases queue system t

      preempted : Turn
      preempted = released followed_by turns.preempts queue system t

  -- rows make the signals of their contents
  pub told-stamped : (whats : List What) → told_mails system (stamped c t whats) ≡ told whats
  told-stamped [] = refl
  told-stamped (what ∷ whats) = ap (cons_option (mail_told system c t what)) (told-stamped whats)
