-- In one turn at most one thread stops, so a context is charged at most once.
use Rattle.std.proofs.Common.{◌≡◌, ℕ, ◌+◌, ◌≤◌, Bool, true, false, not, cond, List, [], ◌∷◌, ◌++◌, length, Option, Some, None, refl, sym, ◌∙◌, inl, inr, arith}
use Rattle.std.specs.Prelude.{◌⊎◌, filter, ◌==◌, nat_lt}
use Rattle.mcs_ticks.specs.Queue.{Discipline}
use Rattle.mcs_ticks.specs.declared.queue.Queued.{Queued}
use Rattle.mcs_ticks.specs.declared.row.What.{What}
use Rattle.mcs_ticks.specs.declared.row.What.TheVariants as row
use Rattle.mcs_ticks.specs.declared.row.Why.{Why}
use Rattle.mcs_ticks.specs.declared.row.Why.TheVariants as why
use Rattle.mcs_control.specs.declared.config.Order.{Order}
use Rattle.mcs_control.specs.Context.{head_amount}
use Rattle.mcs_notify.specs.Note.{posted, after_post, waited, after_wait}
use Rattle.mcs_notify.specs.declared.posted.Posted.{Posted}
use Rattle.mcs_notify.specs.declared.posted.Posted.TheVariants.{Woke, Held}
use Rattle.mcs_notify.specs.declared.posted.Waited.{Waited}
use Rattle.mcs_notify.specs.declared.posted.Waited.TheVariants.{Got, Blocks}
use Rattle.mcs_script.specs.declared.item.Item.{Item}
use Rattle.mcs_script.specs.declared.item.Item.TheVariants.{Compute, Signal, Wait, Yield, On, Spin, Enter, Leave}
use Rattle.mcs_script.specs.declared.moved.Moved.{Moved}
use Rattle.mcs_script.specs.declared.moved.Moved.TheVariants.{Next, RoundEnds, AllDone}
use Rattle.mcs_mail.specs.declared.mail.Mail.{Mail}
use Rattle.mcs_system.specs.System.{System, note_part, thread_part}
use Rattle.mcs_core.specs.Alarms.{ringing, alarms_at}
use Rattle.mcs_core.specs.declared.alarm.Alarm.{Alarm}
use Rattle.mcs_core.specs.Core.{Core, thread_of, note_of, with_note, off}
use Rattle.mcs_core.specs.declared.standing.AfterItem.{AfterItem}
use Rattle.mcs_core.specs.declared.standing.AfterItem.TheVariants as after
use Rattle.mcs_core.specs.declared.standing.Chosen.{Chosen}
use Rattle.mcs_release.specs.Release.{is_due}
use Rattle.mcs_core.specs.Turn as turns
use Rattle.mcs_core.specs.Turn.{Turn, each, silent, says, ◌followed_by◌, is_for_now}
use Rattle.mcs_laws.specs.Histories.{charges_told}

abbrev stop_in : What → ℕ
stop_in (row.Stop thread why k until) = 1
stop_in (row.Release thread) = 0
stop_in (row.Run thread) = 0
stop_in (row.Signal thread note badge) = 0
stop_in (row.Arrive note badge maker) = 0
stop_in (row.Wake thread note word until) = 0
stop_in (row.Hold note word) = 0
stop_in (row.Got thread note word) = 0
stop_in (row.Round thread number response) = 0
stop_in (row.Order ordered) = 0
stop_in (row.Interrupt source note badge) = 0

-- how many threads these rows tell to have stopped
abbrev stops : List What → ℕ
stops [] = 0
stops (what ∷ rows) = stop_in what + stops rows

stops-append : (xs ys : List What) → stops (xs ++ ys) ≡ stops xs + stops ys
stops-append [] ys = omega arith
stops-append (x ∷ xs) ys = omega (arith, stops-append xs ys)

-- a part in which none stops, and which leaves the thread that runs
record Goes (core : Core) (made : Turn) : Type 0 where
  none : stops made.rows ≡ 0
  same : made.core.running ≡ core.running

-- at most one stops, and then none runs
abbrev AtMostOne : Turn → Type 0
AtMostOne made = (stops made.rows ≡ 0) ⊎ ((stops made.rows ≡ 1) × (made.core.running ≡ None))

-- a part in which at most one thread stops, and none if no thread runs
record Rests (core : Core) (made : Turn) : Type 0 where
  idle : core.running ≡ None → (stops made.rows ≡ 0) × (made.core.running ≡ None)
  one : AtMostOne made

goes-then : (core : Core) (first : Turn) (part : Core → Turn) → Goes core first → ((k : Core) → Goes k (part k)) → Goes core (first followed_by part)
goes-then core first part f h =
    record {
      none = stops-append first.rows (part first.core).rows ∙ both _ _ f.none (h first.core).none;
      same = (h first.core).same ∙ f.same;
    }
  where
    both : (m n : ℕ) → m ≡ 0 → n ≡ 0 → m + n ≡ 0
    both m n e g = omega (arith, e, g)

one-then : (first : Turn) (part : Core → Turn) → stops first.rows ≡ 0 → AtMostOne (part first.core) → AtMostOne (first followed_by part)
one-then first part e (inl f) = inl (stops-append first.rows (part first.core).rows ∙ both _ _ e f)
  where
    both : (m n : ℕ) → m ≡ 0 → n ≡ 0 → m + n ≡ 0
    both m n e g = omega (arith, e, g)
one-then first part e (inr f) = inr (stops-append first.rows (part first.core).rows ∙ both _ _ e f.0, f.1)
  where
    both : (m n : ℕ) → m ≡ 0 → n ≡ 1 → m + n ≡ 1
    both m n e g = omega (arith, e, g)

rests : (core : Core) (made : Turn) → Goes core made → Rests core made
rests core made g = record { idle = λ e. (g.none, g.same ∙ e); one = inl g.none }

-- a thread runs
runs-one : (core : Core) (made : Turn) (chosen : Chosen) → core.running ≡ Some chosen → AtMostOne made → Rests core made
runs-one core made chosen e h = record { idle = λ f. absurd (no (sym f ∙ e)); one = h }
  where
    no : None ≡ Some chosen → ⊥
    no f = cc

then_made : (core : Core) (first : Turn) (part : Core → Turn) → Rests core first → Rests first.core (part first.core) → Rests core (first followed_by part)
then_made core first part f s = record { idle = λ e. idle (f.idle e); one = by f.one }
  where
    none : (m n : ℕ) → m ≡ 0 → n ≡ 0 → m + n ≡ 0
    none m n e g = omega (arith, e, g)

    first_one : (m n : ℕ) → m ≡ 1 → n ≡ 0 → m + n ≡ 1
    first_one m n e g = omega (arith, e, g)

    idle : (stops first.rows ≡ 0) × (first.core.running ≡ None) → (stops (first followed_by part).rows ≡ 0) × ((first followed_by part).core.running ≡ None)
    idle p = (stops-append first.rows (part first.core).rows ∙ none _ _ p.0 (s.idle p.1).0, (s.idle p.1).1)

    by : AtMostOne first → AtMostOne (first followed_by part)
    by (inl e) = one-then first part e s.one
    by (inr p) = inr (stops-append first.rows (part first.core).rows ∙ first_one _ _ p.0 (s.idle p.1).0, (s.idle p.1).1)

then_part : (core : Core) (first : Turn) (part : Core → Turn) → Rests core first → ((k : Core) → Rests k (part k)) → Rests core (first followed_by part)
then_part core first part f h = then_made core first part f (h first.core)

each_part : {A : Type 0} (part : A → Core → Turn) → ((y : A) (k : Core) → Rests k (part y k)) → (ys : List A) (core : Core) → Rests core (each part ys core)
each_part part h [] core = rests core (silent core) (record { none = refl; same = refl })
each_part part h (y ∷ ys) core = then_part core (part y core) (each part ys) (h y core) (λ k. each_part part h ys k)

goes_either : (b : Bool) (core : Core) (u v : Turn) → Goes core u → Goes core v → Goes core (cond b u v)
goes_either true core u v p q = p
goes_either false core u v p q = q

one_either : (b : Bool) (u v : Turn) → AtMostOne u → AtMostOne v → AtMostOne (cond b u v)
one_either true u v p q = p
one_either false u v p q = q

module _ (queue : Discipline) (system : System) (c t : ℕ) where
  back-running : (y : ℕ) (o : Option ℕ) (core : Core) → (turns.enters_back queue y o core).running ≡ core.running
  back-running y (Some date) core = refl
  back-running y None core = refl

  front-running : (y : ℕ) (o : Option ℕ) (core : Core) → (turns.enters_front queue y o core).running ≡ core.running
  front-running y (Some date) core = refl
  front-running y None core = refl

  moves-goes : (y : ℕ) (m : Moved) (core : Core) → Goes core (turns.moves system t y m core)
  moves-goes y Next core = record { none = refl; same = refl }
  moves-goes y RoundEnds core = record { none = refl; same = refl }
  moves-goes y AllDone core = record { none = refl; same = refl }

  moves_on-goes : (y : ℕ) (core : Core) → Goes core (turns.moves_on system t y core)
  moves_on-goes y core = moves-goes y (turns.move_of system y core) core

  resumes-goes : (y : ℕ) (before core : Core) → core.running ≡ before.running → Goes before (turns.resumes queue system t y core)
  resumes-goes y before core e =
      goes-then before (turns.moves_on system t y core) (λ k. silent (turns.enters_back queue y (turns.date_of system t y k) k))
      (let h = moves_on-goes y core in record { none = h.none; same = h.same ∙ e })
      (λ k. record { none = refl; same = back-running y (turns.date_of system t y k) k })

  wakes-goes : (y word : ℕ) (core : Core) → Goes core (turns.wakes queue system t y word core)
  wakes-goes y word core =
      goes-then core (turns.moves_on system t y given) (λ k. silent (turns.enters_back queue y (turns.date_of system t y k) k))
      (let h = moves_on-goes y given in record { none = h.none; same = h.same })
      (λ k. record { none = refl; same = back-running y (turns.date_of system t y k) k })
    where
      given : Core
      given = turns.given system t y word (turns.with_woken_context system t y core)

  posts_as-goes : (note : ℕ) (p : Posted) (core : Core) → Goes core (turns.posts_as queue system t note p core)
  posts_as-goes note (Woke y word) core =
      goes-then core (says (row.Wake y note word (turns.woken_until system t y core)) (with_note note (after_post (Woke y word) (note_of core note)) core)) (turns.wakes queue system t y word)
      (record { none = refl; same = refl }) (λ k. wakes-goes y word k)
  posts_as-goes note (Held word) core = record { none = refl; same = refl }

  posts-goes : (note badge : ℕ) (core : Core) → Goes core (turns.posts queue system t note badge core)
  posts-goes note badge core = posts_as-goes note (posted badge (note_of core note)) core

  arrives-goes : (mail : Mail) (core : Core) → Goes core (turns.arrives queue system t mail core)
  arrives-goes mail core =
      goes-then core (says (row.Arrive mail.note mail.badge mail.maker) core) (turns.posts queue system t mail.note mail.badge)
      (record { none = refl; same = refl }) (λ k. posts-goes mail.note mail.badge k)

  interrupts-goes : (alarm : Alarm) (core : Core) → Goes core (turns.interrupts queue system t alarm core)
  interrupts-goes alarm core =
      goes-then core (says (row.Interrupt alarm.source alarm.note alarm.badge) core) (turns.posts queue system t alarm.note alarm.badge)
      (record { none = refl; same = refl }) (λ k. posts-goes alarm.note alarm.badge k)

  let_in-goes : (y : ℕ) (core : Core) → Goes core (turns.let_in queue system t y core)
  let_in-goes y core =
      goes-then core (turns.moves_on system t y woken) (λ k. silent (turns.enters_front queue y (turns.date_of system t y k) k))
      (let h = moves_on-goes y woken in record { none = h.none; same = h.same })
      (λ k. record { none = refl; same = front-running y (turns.date_of system t y k) k })
    where
      woken : Core
      woken = turns.with_woken_context system t y core

  frees_as-goes : (server : ℕ) (p : Posted) (core : Core) → Goes core (turns.frees_as queue system t server p core)
  frees_as-goes server (Woke y word) core =
      goes-then core (says (row.Wake y server word (turns.woken_until system t y core)) (with_note server (after_post (Woke y word) (note_of core server)) core)) (turns.let_in queue system t y)
      (record { none = refl; same = refl }) (λ k. let_in-goes y k)
  frees_as-goes server (Held word) core = record { none = refl; same = refl }

  frees-goes : (y server : ℕ) (core : Core) → Goes core (turns.frees queue system t y server core)
  frees-goes y server core =
      goes-then core (says (row.Signal y server 1) core) (λ k. turns.frees_as queue system t server (posted 1 (note_of k server)) k)
      (record { none = refl; same = refl }) (λ k. frees_as-goes server (posted 1 (note_of k server)) k)

  enters_as-goes : (y server : ℕ) (w : Waited) (core : Core) → Goes core (turns.enters_as system t y server w core)
  enters_as-goes y server (Got word) core =
      goes-then core (says (row.Got y server word) (with_note server (after_wait (Got word) (turns.queued y core) (note_of core server)) core))
      (turns.moves_on system t y) (record { none = refl; same = refl }) (λ k. moves_on-goes y k)
  enters_as-goes y server Blocks core = record { none = refl; same = refl }

  signals-goes : (y note badge : ℕ) (core : Core) → Goes core (turns.signals queue system c t y note badge core)
  signals-goes y note badge core =
      goes-then core (says (row.Signal y note badge) core) (λ k. cond ((note_part system note).core == c) (turns.posts queue system t note badge k) (sent k))
      (record { none = refl; same = refl })
      (λ k. goes_either ((note_part system note).core == c) k (turns.posts queue system t note badge k) (sent k) (posts-goes note badge k) (record { none = refl; same = refl }))
    where
      sent : Core → Turn
      sent k = record { core = k; rows = []; mails = turns.mail_to system c t note badge ∷ [] }

  waits_as-goes : (y note : ℕ) (w : Waited) (core : Core) → Goes core (turns.waits_as system t y note w core)
  waits_as-goes y note (Got word) core =
      goes-then core (says (row.Got y note word) (turns.given system t y word (with_note note (after_wait (Got word) (turns.queued y core) (note_of core note)) core)))
      (turns.moves_on system t y) (record { none = refl; same = refl }) (λ k. moves_on-goes y k)
  waits_as-goes y note Blocks core = record { none = refl; same = refl }

  takes_effect-goes : (y : ℕ) (item : Option Item) (core : Core) → Goes core (turns.takes_effect queue system c t y item core)
  takes_effect-goes y (Some (Signal note badge)) core =
      goes-then core (turns.signals queue system c t y note badge core) (turns.moves_on system t y) (signals-goes y note badge core) (λ k. moves_on-goes y k)
  takes_effect-goes y (Some (Wait note)) core = waits_as-goes y note (waited (note_of core note)) core
  takes_effect-goes y (Some (Compute ticks)) core = moves_on-goes y core
  takes_effect-goes y (Some Yield) core = moves_on-goes y core
  takes_effect-goes y (Some (On badges)) core = moves_on-goes y core
  takes_effect-goes y (Some Spin) core = moves_on-goes y core
  takes_effect-goes y (Some (Enter server priority)) core = enters_as-goes y server (waited (note_of core server)) core
  takes_effect-goes y (Some (Leave server priority)) core =
      goes-then core (turns.frees queue system t y server core) (turns.moves_on system t y) (frees-goes y server core) (λ k. moves_on-goes y k)
  takes_effect-goes y None core = record { none = refl; same = refl }

  -- at most one stop at the end of the tick
  to_back-one : (y k : ℕ) (cause : Why) (core : Core) → AtMostOne (turns.stops_to_back queue system t y cause k core)
  to_back-one y k cause core =
      inr (refl, back-running y (turns.date_of system t y (turns.charged system y k core)) (off (turns.charged system y k core)))

  may_stop-one : (y using : ℕ) (cause : AfterItem) (core : Core) → AtMostOne (turns.may_stop queue system t y using cause core)
  may_stop-one y using after.Ends core = inr (refl, refl)
  may_stop-one y using after.Blocks core = inr (refl, refl)
  may_stop-one y using after.Calls core = inr (refl, refl)
  may_stop-one y using after.Yields core = to_back-one y (head_amount (turns.its_context system y core)) why.Yield core
  may_stop-one y using after.GoesOn core =
      one_either (using == head_amount (turns.its_context system y core)) (turns.stops_to_back queue system t y why.Spent using core) (silent core)
      (to_back-one y using why.Spent core) (inl refl)

  after_count-one : (y using : ℕ) (core : Core) → AtMostOne (turns.after_count queue system c t y using core)
  after_count-one y using core =
      one_either ((thread_of core y).place.left == 0)
      (turns.finishes queue system c t y using (turns.item_of system y core) core) (turns.may_stop queue system t y using after.GoesOn core)
      (
      one-then (turns.takes_effect queue system c t y (turns.item_of system y core) core)
      (turns.may_stop queue system t y using (turns.after_item system y (turns.item_of system y core) core))
      (takes_effect-goes y (turns.item_of system y core) core).none
      (may_stop-one y using (turns.after_item system y (turns.item_of system y core) core) (turns.takes_effect queue system c t y (turns.item_of system y core) core).core)
      )
      (may_stop-one y using after.GoesOn core)

  tick_of-rests : (o : Option Chosen) (core : Core) → core.running ≡ o → Rests core (turns.tick_of queue system c t o core)
  tick_of-rests None core e = rests core (silent core) (record { none = refl; same = refl })
  tick_of-rests (Some chosen) core e = runs-one core _ chosen e (after_count-one chosen.thread (chosen.using + 1) (turns.counts chosen core))

  -- orders, releases, and a thread that gives way
  orders_running-rests : (order : Order) (o : Option Chosen) (core : Core) → core.running ≡ o → Rests core (turns.orders_running queue system t order o core)
  orders_running-rests order None core e = rests core (silent (turns.applied t order core)) (record { none = refl; same = refl })
  orders_running-rests order (Some chosen) core e =
      runs-one core _ chosen e
      (
      one_either ((turns.part_of system chosen.thread).context == order.context) stopped (silent (turns.applied t order core))
      (inr (refl, front-running chosen.thread (turns.date_of system t chosen.thread made) (off made))) (inl refl)
      )
    where
      made : Core
      made = turns.applied t order (turns.charged system chosen.thread chosen.using core)

      stopped : Turn
      stopped = turns.stops_to_front queue system t chosen.thread why.Order chosen.using made

  obeys-rests : (order : Order) (core : Core) → Rests core (turns.obeys queue system t order core)
  obeys-rests order core =
      then_made core (says (row.Order order.context) core) (λ k. turns.orders_running queue system t order core.running k)
      (rests core (says (row.Order order.context) core) (record { none = refl; same = refl })) (orders_running-rests order core.running core refl)

  releases-rests : (core : Core) → Rests core (turns.releases queue system t core)
  releases-rests core =
      then_part core (silent (record core { releases = filter (λ dated. not (is_due t dated)) core.releases })) (each (turns.released queue) (filter (is_due t) core.releases))
      (rests core _ (record { none = refl; same = refl }))
      (λ k. each_part (turns.released queue) (λ due k. rests k _ (record { none = refl; same = refl })) (filter (is_due t) core.releases) k)

  preempts_by-rests : (o : Option Chosen) (best : Option Queued) (core : Core) → core.running ≡ o → Rests core (turns.preempts_by queue system t o best core)
  preempts_by-rests (Some chosen) (Some best) core e =
      runs-one core _ chosen e
      (
      one_either (nat_lt (thread_of core chosen.thread).place.priority best.priority)
      (turns.stops_to_front queue system t chosen.thread why.Preempt chosen.using made) (silent core)
      (inr (refl, front-running chosen.thread (turns.date_of system t chosen.thread made) (off made))) (inl refl)
      )
    where
      made : Core
      made = turns.charged system chosen.thread chosen.using core
  preempts_by-rests (Some chosen) None core e = rests core (silent core) (record { none = refl; same = refl })
  preempts_by-rests None best core e = rests core (silent core) (record { none = refl; same = refl })

  chooses_of-none : (o : Option Chosen) (best : Option Queued) (core : Core) → stops (turns.chooses_of queue system t o best core).rows ≡ 0
  chooses_of-none (Some chosen) best core = refl
  chooses_of-none None None core = refl
  chooses_of-none None (Some best) core = refl

  -- all of a turn but the choice
  turn-stops : (mails : List Mail) (core : Core) → stops (turns.turn_with queue system c t mails core).rows ≤ 1
  turn-stops mails core = by before.one
    where
      orders : List Order
      orders = filter (is_for_now system c t) system.orders

      parts : Turn
      parts =
          turns.tick queue system c t core followed_by each (turns.interrupts queue system t) (ringing t (alarms_at system c t)) followed_by each (turns.arrives queue system t) mails followed_by each (turns.obeys queue system t) orders
          followed_by turns.releases queue system t followed_by turns.preempts queue system t

      before : Rests core parts
      before =
          then_part core _ (turns.preempts queue system t)
          (
          then_part core _ (turns.releases queue system t)
          (
          then_part core _ (each (turns.obeys queue system t) orders)
          (
          then_part core _ (each (turns.arrives queue system t) mails)
          (
          then_part core (turns.tick queue system c t core) (each (turns.interrupts queue system t) (ringing t (alarms_at system c t)))
          (tick_of-rests core.running core refl)
          (λ k. each_part (turns.interrupts queue system t) (λ alarm k. rests k _ (interrupts-goes alarm k)) (ringing t (alarms_at system c t)) k)
          )
          (λ k. each_part (turns.arrives queue system t) (λ mail k. rests k _ (arrives-goes mail k)) mails k)
          )
          (λ k. each_part (turns.obeys queue system t) obeys-rests orders k)
          )
          releases-rests
          )
          (λ k. preempts_by-rests k.running (queue.best k.ready) k refl)

      few : (m n : ℕ) → m ≤ 1 → n ≡ 0 → m + n ≤ 1
      few m n e f = omega (arith, e, f)

      whole : stops parts.rows ≤ 1 → stops (turns.turn_with queue system c t mails core).rows ≤ 1
      whole h =
          rw (stops-append parts.rows (turns.chooses queue system t parts.core).rows)
          (few _ _ h (chooses_of-none parts.core.running (queue.best parts.core.ready) parts.core))

      by : AtMostOne parts → stops (turns.turn_with queue system c t mails core).rows ≤ 1
      by (inl e) = whole (omega (arith, e))
      by (inr p) = whole (omega (arith, p.0))

-- each charge is in the row of a stop
charges-few : (system : System) (x : ℕ) (rows : List What) → length (charges_told system x rows) ≤ stops rows
charges-few system x [] = omega arith
charges-few system x (what ∷ rows) = by what (charges-few system x rows)
  where
    by : (what : What) → length (charges_told system x rows) ≤ stops rows → length (charges_told system x (what ∷ rows)) ≤ stops (what ∷ rows)
    by (row.Stop thread why k until) i = here ((thread_part system thread).context == x)
      where
        here : (b : Bool) → length (cond b (k ∷ []) [] ++ charges_told system x rows) ≤ 1 + stops rows
        here true = omega (arith, i)
        here false = omega (arith, i)
    by (row.Wake thread note word until) i = omega (arith, i)
    by (row.Run thread) i = omega (arith, i)
    by (row.Release thread) i = omega (arith, i)
    by (row.Signal thread note badge) i = omega (arith, i)
    by (row.Arrive note badge maker) i = omega (arith, i)
    by (row.Hold note word) i = omega (arith, i)
    by (row.Got thread note word) i = omega (arith, i)
    by (row.Round thread number response) i = omega (arith, i)
    by (row.Order ordered) i = omega (arith, i)
    by (row.Interrupt source note badge) i = omega (arith, i)

pub one-charge : (queue : Discipline) (system : System) (c t x : ℕ) (mails : List Mail) (core : Core) →
    length (charges_told system x (turns.turn_with queue system c t mails core).rows) ≤ 1
one-charge queue system c t x mails core =
    let few = charges-few system x (turns.turn_with queue system c t mails core).rows in
    let most = turn-stops queue system c t mails core in
    omega (arith, few, most)
