-- The dates in the release queue of a core: none has passed.
use Rattle.std.proofs.Common.{◌≡◌, ℕ, suc, ◌+◌, ◌≤◌, Bool, true, false, not, cond, List, [], ◌∷◌, ◌++◌, Option, Some, None, refl, arith}
use Rattle.std.specs.Prelude.{filter, ◌==◌, nat_lt, nat_le}
use Rattle.std.specs.List.{AllByRecursion}
use Rattle.std.proofs.lemmas.Bool.Decides.{nat_tests}
use Rattle.mcs_ticks.specs.Queue.{by_priority, first_of}
use Rattle.mcs_ticks.specs.declared.queue.Queued.{Queued}
use Rattle.mcs_ticks.specs.declared.row.Why.{Why}
use Rattle.mcs_ticks.specs.declared.row.Why.TheVariants as why
use Rattle.mcs_notify.specs.Note.{posted, after_post, waited, after_wait}
use Rattle.mcs_notify.specs.declared.posted.Posted.{Posted}
use Rattle.mcs_notify.specs.declared.posted.Posted.TheVariants.{Woke, Held}
use Rattle.mcs_notify.specs.declared.posted.Waited.{Waited}
use Rattle.mcs_notify.specs.declared.posted.Waited.TheVariants.{Got, Blocks}
use Rattle.mcs_release.specs.declared.dated.Dated.{Dated}
use Rattle.mcs_control.specs.declared.config.Order.{Order}
use Rattle.mcs_control.specs.Context.{Budget, context_ready, budget_ready, moment_of, head_moment, head_amount}
use Rattle.mcs_control.specs.Context.Budget.{Dates, Slice}
use Rattle.mcs_refills.specs.Server as server
use Rattle.mcs_script.specs.declared.item.Item.{Item}
use Rattle.mcs_script.specs.declared.item.Item.TheVariants.{Compute, Signal, Wait, Yield, On, Spin, Enter, Leave}
use Rattle.mcs_script.specs.declared.moved.Moved.{Moved}
use Rattle.mcs_script.specs.declared.moved.Moved.TheVariants.{Next, RoundEnds, AllDone}
use Rattle.mcs_mail.specs.declared.mail.Mail.{Mail}
use Rattle.mcs_core.specs.Alarms.{ringing, alarms_at}
use Rattle.mcs_core.specs.declared.alarm.Alarm.{Alarm}
use Rattle.mcs_core.specs.declared.standing.AfterItem.{AfterItem}
use Rattle.mcs_core.specs.declared.standing.AfterItem.TheVariants as after
use Rattle.mcs_core.specs.declared.standing.Chosen.{Chosen}
use Rattle.mcs_system.specs.System.{System, note_part}
use Rattle.mcs_core.specs.Core.{Core, note_of, thread_of, with_note, off}
use Rattle.mcs_release.specs.Release.{is_due}
use Rattle.mcs_core.specs.Turn as turns
use Rattle.mcs_core.specs.Turn.{Turn, each, silent, says, ◌followed_by◌, is_for_now}

-- no date is before m
abbrev pub AreFrom : ℕ → List Dated → Type 0
AreFrom m releases = AllByRecursion (λ (dated : Dated). m ≤ dated.date) releases

pub all-from-zero : (releases : List Dated) → AreFrom 0 releases
all-from-zero [] = tt
all-from-zero (dated ∷ others) = (omega arith, all-from-zero others)

also-from : (m y date : ℕ) (releases : List Dated) → AreFrom m releases → m ≤ date → AreFrom m (releases ++ record { thread = y; date = date } ∷ [])
also-from m y date [] h l = (l, tt)
also-from m y date (dated ∷ others) h l = (h.0, also-from m y date others h.1 l)

-- those that are not due at t come later
left-later : (t : ℕ) (releases : List Dated) → AreFrom (suc t) (filter (λ dated. not (is_due t dated)) releases)
left-later t [] = tt
left-later t (dated ∷ others) = by (nat_le dated.date t) refl (left-later t others)
  where
    later : (a b : ℕ) → nat_le a b ≡ false → suc b ≤ a
    later a b e = grind (arith, nat_tests)

    by : (b : Bool) → nat_le dated.date t ≡ b → AreFrom (suc t) (filter (λ dated. not (is_due t dated)) others) →
        AreFrom (suc t) (cond (not b) (dated ∷ filter (λ dated. not (is_due t dated)) others) (filter (λ dated. not (is_due t dated)) others))
    by true e i = i
    by false e i = (later dated.date t e, i)

-- the parts of a turn at t
module _ (system : System) (c t m : ℕ) (soon : m ≤ suc t) where
  abbrev pub IsFrom : Core → Type 0
  IsFrom k = AreFrom m k.releases

  abbrev Fits : Option ℕ → Type 0
  Fits None = Unit {0}
  Fits (Some date) = m ≤ date

  -- a thread waits only for a date that is to come
  fits : (y : ℕ) (k : Core) → Fits (turns.date_of system t y k)
  fits y k = by (context_ready t (turns.its_context system y k)) refl
    where
      later : (a b : ℕ) → nat_le a b ≡ false → suc b ≤ a
      later a b e = grind (arith, nat_tests)

      to_come : (budget : Budget) → budget_ready t budget ≡ false → m ≤ moment_of budget
      to_come (Dates dates) e = omega (arith, soon, later (server.first_date dates) t e)
      to_come (Slice left) e = let bad : true ≡ false = e in absurd (cc)

      by : (b : Bool) → context_ready t (turns.its_context system y k) ≡ b → Fits (cond b None (Some (head_moment (turns.its_context system y k))))
      by true e = tt
      by false e = to_come (turns.its_context system y k).budget e

  back-from : (y : ℕ) (o : Option ℕ) (k : Core) → Fits o → IsFrom k → IsFrom (turns.enters_back by_priority y o k)
  back-from y (Some date) k f h = also-from m y date k.releases h f
  back-from y None k f h = h

  front-from : (y : ℕ) (o : Option ℕ) (k : Core) → Fits o → IsFrom k → IsFrom (turns.enters_front by_priority y o k)
  front-from y (Some date) k f h = also-from m y date k.releases h f
  front-from y None k f h = h

  moves-from : (y : ℕ) (move : Moved) (k : Core) → IsFrom k → IsFrom (turns.moves system t y move k).core
  moves-from y Next k h = h
  moves-from y RoundEnds k h = h
  moves-from y AllDone k h = h

  wakes-from : (y word : ℕ) (k : Core) → IsFrom k → IsFrom (turns.wakes by_priority system t y word k).core
  wakes-from y word k h =
      let given = turns.given system t y word (turns.with_woken_context system t y k) in
      let after = (turns.moves_on system t y given).core in
      back-from y (turns.date_of system t y after) after (fits y after) (moves-from y (turns.move_of system y given) given h)

  let_in-from : (y : ℕ) (k : Core) → IsFrom k → IsFrom (turns.let_in by_priority system t y k).core
  let_in-from y k h =
      let woken = turns.with_woken_context system t y k in
      let after = (turns.moves_on system t y woken).core in
      front-from y (turns.date_of system t y after) after (fits y after) (moves-from y (turns.move_of system y woken) woken h)

  posts_as-from : (note : ℕ) (p : Posted) (k : Core) → IsFrom k → IsFrom (turns.posts_as by_priority system t note p k).core
  posts_as-from note (Woke y word) k h = wakes-from y word (with_note note (after_post (Woke y word) (note_of k note)) k) h
  posts_as-from note (Held word) k h = h

  posts-from : (note badge : ℕ) (k : Core) → IsFrom k → IsFrom (turns.posts by_priority system t note badge k).core
  posts-from note badge k h = posts_as-from note (posted badge (note_of k note)) k h

  frees_as-from : (server : ℕ) (p : Posted) (k : Core) → IsFrom k → IsFrom (turns.frees_as by_priority system t server p k).core
  frees_as-from server (Woke y word) k h = let_in-from y (with_note server (after_post (Woke y word) (note_of k server)) k) h
  frees_as-from server (Held word) k h = h

  frees-from : (y server : ℕ) (k : Core) → IsFrom k → IsFrom (turns.frees by_priority system t y server k).core
  frees-from y server k h = frees_as-from server (posted 1 (note_of k server)) k h

  pub interrupts-from : (alarms : List Alarm) (k : Core) → IsFrom k → IsFrom (each (turns.interrupts by_priority system t) alarms k).core
  interrupts-from [] k h = h
  interrupts-from (alarm ∷ alarms) k h =
      interrupts-from alarms (turns.interrupts by_priority system t alarm k).core (posts-from alarm.note alarm.badge k h)

  pub arrives-from : (mails : List Mail) (k : Core) → IsFrom k → IsFrom (each (turns.arrives by_priority system t) mails k).core
  arrives-from [] k h = h
  arrives-from (mail ∷ mails) k h = arrives-from mails (turns.arrives by_priority system t mail k).core (posts-from mail.note mail.badge k h)

  by_test : (b : Bool) (u v : Turn) → IsFrom u.core → IsFrom v.core → IsFrom (cond b u v).core
  by_test true u v p q = p
  by_test false u v p q = q

  to_back-from : (y : ℕ) (cause : Why) (n : ℕ) (k : Core) → IsFrom k → IsFrom (turns.stops_to_back by_priority system t y cause n k).core
  to_back-from y cause n k h =
      let after = turns.charged system y n k in
      back-from y (turns.date_of system t y after) (off after) (fits y after) h

  to_front-from : (y : ℕ) (cause : Why) (n : ℕ) (k : Core) → IsFrom k → IsFrom (turns.stops_to_front by_priority system t y cause n k).core
  to_front-from y cause n k h = front-from y (turns.date_of system t y k) (off k) (fits y k) h

  -- an order
  pub obeys-from : (order : Order) (k : Core) → IsFrom k → IsFrom (turns.obeys by_priority system t order k).core
  obeys-from order k h = by k.running
    where
      by : (o : Option Chosen) → IsFrom (turns.orders_running by_priority system t order o k).core
      by None = h
      by (Some chosen) =
          let after = turns.applied t order (turns.charged system chosen.thread chosen.using k) in
          by_test ((turns.part_of system chosen.thread).context == order.context)
          (turns.stops_to_front by_priority system t chosen.thread why.Order chosen.using after)
          (silent (turns.applied t order k))
          (to_front-from chosen.thread why.Order chosen.using after h) h

  -- the end of the tick
  signals-from : (y note badge : ℕ) (k : Core) → IsFrom k → IsFrom (turns.signals by_priority system c t y note badge k).core
  signals-from y note badge k h =
      by_test ((note_part system note).core == c) (turns.posts by_priority system t note badge k)
      (record { core = k; rows = []; mails = turns.mail_to system c t note badge ∷ [] }) (posts-from note badge k h) h

  waits_as-from : (y note : ℕ) (w : Waited) (k : Core) → IsFrom k → IsFrom (turns.waits_as system t y note w k).core
  waits_as-from y note (Got word) k h =
      let given = turns.given system t y word (with_note note (after_wait (Got word) (turns.queued y k) (note_of k note)) k) in
      moves-from y (turns.move_of system y given) given h
  waits_as-from y note Blocks k h = h

  enters_as-from : (y server : ℕ) (w : Waited) (k : Core) → IsFrom k → IsFrom (turns.enters_as system t y server w k).core
  enters_as-from y server (Got word) k h =
      let taken = with_note server (after_wait (Got word) (turns.queued y k) (note_of k server)) k in
      moves-from y (turns.move_of system y taken) taken h
  enters_as-from y server Blocks k h = h

  takes_effect-from : (y : ℕ) (item : Option Item) (k : Core) → IsFrom k → IsFrom (turns.takes_effect by_priority system c t y item k).core
  takes_effect-from y (Some (Signal note badge)) k h =
      let sent = (turns.signals by_priority system c t y note badge k).core in
      moves-from y (turns.move_of system y sent) sent (signals-from y note badge k h)
  takes_effect-from y (Some (Wait note)) k h = waits_as-from y note (waited (note_of k note)) k h
  takes_effect-from y (Some (Compute ticks)) k h = moves-from y (turns.move_of system y k) k h
  takes_effect-from y (Some Yield) k h = moves-from y (turns.move_of system y k) k h
  takes_effect-from y (Some (On badges)) k h = moves-from y (turns.move_of system y k) k h
  takes_effect-from y (Some Spin) k h = moves-from y (turns.move_of system y k) k h
  takes_effect-from y (Some (Enter server priority)) k h = enters_as-from y server (waited (note_of k server)) k h
  takes_effect-from y (Some (Leave server priority)) k h =
      let freed = (turns.frees by_priority system t y server k).core in
      moves-from y (turns.move_of system y freed) freed (frees-from y server k h)
  takes_effect-from y None k h = h

  spent-from : (y using : ℕ) (k : Core) → IsFrom k → IsFrom (turns.may_stop by_priority system t y using after.GoesOn k).core
  spent-from y using k h =
      by_test (using == head_amount (turns.its_context system y k)) (turns.stops_to_back by_priority system t y why.Spent using k) (silent k)
      (to_back-from y why.Spent using k h) h

  may_stop-from : (y using : ℕ) (cause : AfterItem) (k : Core) → IsFrom k → IsFrom (turns.may_stop by_priority system t y using cause k).core
  may_stop-from y using after.Ends k h = h
  may_stop-from y using after.Blocks k h = h
  may_stop-from y using after.Calls k h = h
  may_stop-from y using after.Yields k h = to_back-from y why.Yield (head_amount (turns.its_context system y k)) k h
  may_stop-from y using after.GoesOn k h = spent-from y using k h

  after_count-from : (y using : ℕ) (k : Core) → IsFrom k → IsFrom (turns.after_count by_priority system c t y using k).core
  after_count-from y using k h =
      let item = turns.item_of system y k in
      by_test ((thread_of k y).place.left == 0) (turns.finishes by_priority system c t y using item k) (turns.may_stop by_priority system t y using after.GoesOn k)
      (may_stop-from y using (turns.after_item system y item k) (turns.takes_effect by_priority system c t y item k).core (takes_effect-from y item k h))
      (spent-from y using k h)

  pub tick-from : (o : Option Chosen) (k : Core) → IsFrom k → IsFrom (turns.tick_of by_priority system c t o k).core
  tick-from None k h = h
  tick-from (Some chosen) k h = after_count-from chosen.thread (chosen.using + 1) (turns.counts chosen k) h

  -- the releases and the choice
  released-from : (due : List Dated) (k : Core) → IsFrom k → IsFrom (each (turns.released by_priority) due k).core
  released-from [] k h = h
  released-from (dated ∷ due) k h = released-from due (turns.enters_back by_priority dated.thread None k) h

  preempts-from : (o : Option Chosen) (best : Option Queued) (k : Core) → IsFrom k → IsFrom (turns.preempts_by by_priority system t o best k).core
  preempts-from (Some chosen) (Some best) k h =
      let charged = turns.charged system chosen.thread chosen.using k in
      by_test (nat_lt (thread_of k chosen.thread).place.priority best.priority)
      (turns.stops_to_front by_priority system t chosen.thread why.Preempt chosen.using charged) (silent k)
      (to_front-from chosen.thread why.Preempt chosen.using charged h) h
  preempts-from (Some chosen) None k h = h
  preempts-from None best k h = h

  chooses-from : (o : Option Chosen) (best : Option Queued) (k : Core) → IsFrom k → IsFrom (turns.chooses_of by_priority system t o best k).core
  chooses-from (Some chosen) best k h = h
  chooses-from None None k h = h
  chooses-from None (Some best) k h = h

-- after a turn at t each date is later than t
pub turn-later : (system : System) (c t : ℕ) (mails : List Mail) (k : Core) → AreFrom (suc t) (turns.turn_with by_priority system c t mails k).core.releases
turn-later system c t mails k =
    chooses-from system c t (suc t) (omega arith) fifth.running (first_of fifth.ready) fifth
    (preempts-from system c t (suc t) (omega arith) fourth.running (first_of fourth.ready) fourth
    (released-from system c t (suc t) (omega arith) (filter (is_due t) third.releases) (record third { releases = filter (λ dated. not (is_due t dated)) third.releases })
    (left-later t third.releases)))
  where
    first : Core
    first = (turns.tick by_priority system c t k).core

    rang : Core
    rang = (each (turns.interrupts by_priority system t) (ringing t (alarms_at system c t)) first).core

    second : Core
    second = (each (turns.arrives by_priority system t) mails rang).core

    third : Core
    third = (each (turns.obeys by_priority system t) (filter (is_for_now system c t) system.orders) second).core

    fourth : Core
    fourth = (turns.releases by_priority system t third).core

    fifth : Core
    fifth = (turns.preempts by_priority system t fourth).core
