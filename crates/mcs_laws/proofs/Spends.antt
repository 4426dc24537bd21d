-- The charge for used ticks: a turn charges at least the ticks in use, if the thread is no longer
-- running.
use Rattle.std.proofs.Common.{◌≡◌, ℕ, ◌+◌, ◌<◌, ◌≤◌, Bool, true, false, not, cond, List, [], ◌∷◌, ◌++◌, Option, Some, None, refl, sym, ap, subst, ◌∙◌, arith}
use Rattle.std.specs.Prelude.{filter, ◌==◌, nat_lt, sum}
use Rattle.std.proofs.lemmas.Bool.Decides.{nat_tests}
use Rattle.std.proofs.lemmas.List.Concat.{flat_map-append}
use Rattle.std.proofs.lemmas.List.Sums.{sum_by-append}
use Rattle.mcs_ticks.specs.Queue.{by_priority, first_of}
use Rattle.mcs_ticks.specs.declared.queue.Queued.{Queued}
use Rattle.mcs_ticks.specs.declared.row.What.{What}
use Rattle.mcs_ticks.specs.declared.row.What.TheVariants as row
use Rattle.mcs_ticks.specs.declared.row.Why.{Why}
use Rattle.mcs_ticks.specs.declared.row.Why.TheVariants as why
use Rattle.mcs_notify.specs.Note.{posted, waited, after_wait}
use Rattle.mcs_notify.specs.declared.posted.Waited.{Waited}
use Rattle.mcs_notify.specs.declared.posted.Waited.TheVariants.{Got, Blocks}
use Rattle.mcs_control.specs.declared.config.Order.{Order}
use Rattle.mcs_control.specs.Context.{head_amount}
use Rattle.mcs_script.specs.declared.item.Item.{Item}
use Rattle.mcs_script.specs.declared.item.Item.TheVariants.{Compute, Signal, Wait, Yield, On, Spin, Enter, Leave}
use Rattle.mcs_script.specs.declared.moved.Moved.{Moved}
use Rattle.mcs_script.specs.declared.moved.Moved.TheVariants.{Next, RoundEnds, AllDone}
use Rattle.mcs_mail.specs.declared.mail.Mail.{Mail}
use Rattle.mcs_core.specs.Alarms.{ringing, alarms_at}
use Rattle.mcs_core.specs.declared.alarm.Alarm.{Alarm}
use Rattle.mcs_core.specs.declared.standing.AfterItem.{AfterItem}
use Rattle.mcs_core.specs.declared.standing.AfterItem.TheVariants as after
use Rattle.mcs_core.specs.declared.standing.Chosen.{Chosen}
use Rattle.mcs_system.specs.System.{System, thread_part}
use Rattle.mcs_core.specs.Core.{Core, context_of, note_of, thread_of, with_note}
use Rattle.mcs_core.specs.Contexts.{held}
use Rattle.mcs_release.specs.Release.{is_due}
use Rattle.mcs_core.specs.Turn as turns
use Rattle.mcs_core.specs.Turn.{Turn, each, silent, says, ◌followed_by◌, is_for_now}
use Rattle.mcs_laws.specs.Histories.{charge_told, charges_told}
use Rattle.mcs_laws.specs.Places.{times_running}
use Rattle.mcs_laws.proofs.Places as placed

module _ (system : System) (c t x : ℕ) where
  abbrev own_context : ℕ
  own_context = (thread_part system x).context

  -- the ticks in use of the thread
  abbrev pub used : Option Chosen → ℕ
  used None = 0
  used (Some chosen) = cond (chosen.thread == x) chosen.using 0

  -- what rows charge its context
  abbrev pub charged_by : List What → ℕ
  charged_by rows = sum (charges_told system own_context rows)

  -- what was in use has been charged, or is in use
  abbrev Spends : Option Chosen → Turn → Type 0
  Spends o made = used o ≤ charged_by made.rows + used made.core.running

  charged-append : (rows more : List What) → charged_by (rows ++ more) ≡ charged_by rows + charged_by more
  charged-append rows more =
      ap sum (flat_map-append (charge_told system own_context) rows more)
      ∙ sum_by-append (λ k. k) (charges_told system own_context rows) (charges_told system own_context more)

  then_spends : (o : Option Chosen) (first : Turn) (part : Core → Turn) → Spends o first → Spends first.core.running (part first.core) → Spends o (first followed_by part)
  then_spends o first part p q = omega (arith, p, q, charged-append first.rows (part first.core).rows)

  each-spends : {A : Type 0} (part : A → Core → Turn) → ((item : A) (k : Core) → Spends k.running (part item k)) → (items : List A) (k : Core) → Spends k.running (each part items k)
  each-spends part h [] k = omega arith
  each-spends part h (item ∷ items) k = then_spends k.running (part item k) (each part items) (h item k) (each-spends part h items (part item k).core)

  by_test : (o : Option Chosen) (b : Bool) (u v : Turn) → Spends o u → Spends o v → Spends o (cond b u v)
  by_test o true u v p q = p
  by_test o false u v p q = q

  -- a part in which nobody stops
  quiet : (o : Option Chosen) (made : Turn) → made.core.running ≡ o → Spends o made
  quiet o made e = omega (arith, ap used e)

  -- a stop
  stop : (y using k : ℕ) (cause : Why) (until : Option ℕ) (o : Option Chosen) (made : Turn) → o ≡ Some (record { thread = y; using = using }) →
      made.rows ≡ row.Stop y cause k until ∷ [] → (y ≡ x → using ≤ k) → Spends o made
  stop y using k cause until o made e f l =
      let now : used o ≡ cond (y == x) using 0 = ap used e in
      let told : charged_by made.rows ≡ charged_by (row.Stop y cause k until ∷ []) = ap charged_by f in
      omega (arith, now, told, by (y == x) refl)
    where
      equal : (a b : ℕ) → (a == b) ≡ true → a ≡ b
      equal a b e = grind (arith, nat_tests)

      itself : (a : ℕ) → (a == a) ≡ true
      itself a = grind (arith, nat_tests)

      own : y ≡ x → charged_by (row.Stop y cause k until ∷ []) ≡ k
      own e = ap (λ z. sum (cond ((thread_part system z).context == own_context) (k ∷ []) [] ++ [])) e ∙ ap (λ b. sum (cond b (k ∷ []) [] ++ [])) (itself own_context) ∙ omega arith

      by : (b : Bool) → (y == x) ≡ b → cond b using 0 ≤ charged_by (row.Stop y cause k until ∷ [])
      by true e = omega (arith, l (equal y x e), own (equal y x e))
      by false e = omega arith

  arrives-spends : (mail : Mail) (k : Core) → Spends k.running (turns.arrives by_priority system t mail k)
  arrives-spends mail k =
      quiet k.running (turns.arrives by_priority system t mail k) (placed.posts_as-running system t x mail.note (posted mail.badge (note_of k mail.note)) k)

  interrupts-spends : (alarm : Alarm) (k : Core) → Spends k.running (turns.interrupts by_priority system t alarm k)
  interrupts-spends alarm k =
      quiet k.running (turns.interrupts by_priority system t alarm k) (placed.posts_as-running system t x alarm.note (posted alarm.badge (note_of k alarm.note)) k)

  orders_running-spends : (order : Order) (o : Option Chosen) (k : Core) → k.running ≡ o → Spends k.running (turns.orders_running by_priority system t order o k)
  orders_running-spends order None k e = quiet k.running (silent (turns.applied t order k)) refl
  orders_running-spends order (Some chosen) k e =
      let after = turns.applied t order (turns.charged system chosen.thread chosen.using k) in
      let stopped = turns.stops_to_front by_priority system t chosen.thread why.Order chosen.using after in
      by_test k.running ((turns.part_of system chosen.thread).context == order.context) stopped (silent (turns.applied t order k))
      (stop chosen.thread chosen.using chosen.using why.Order (turns.date_of system t chosen.thread after) k.running stopped e refl (λ own. omega arith))
      (quiet k.running (silent (turns.applied t order k)) refl)

  obeys-spends : (order : Order) (k : Core) → Spends k.running (turns.obeys by_priority system t order k)
  obeys-spends order k =
      then_spends k.running (says (row.Order order.context) k) (λ core. turns.orders_running by_priority system t order core.running core)
      (quiet k.running (says (row.Order order.context) k) refl) (orders_running-spends order k.running k refl)

  releases-spends : (k : Core) → Spends k.running (turns.releases by_priority system t k)
  releases-spends k =
      each-spends (turns.released by_priority) (λ due core. quiet core.running (turns.released by_priority due core) refl)
      (filter (is_due t) k.releases) (record k { releases = filter (λ dated. not (is_due t dated)) k.releases })

  preempts_by-spends : (o : Option Chosen) (best : Option Queued) (k : Core) → k.running ≡ o → Spends k.running (turns.preempts_by by_priority system t o best k)
  preempts_by-spends (Some chosen) (Some best) k e =
      let after = turns.charged system chosen.thread chosen.using k in
      let stopped = turns.stops_to_front by_priority system t chosen.thread why.Preempt chosen.using after in
      by_test k.running (nat_lt (thread_of k chosen.thread).place.priority best.priority) stopped (silent k)
      (stop chosen.thread chosen.using chosen.using why.Preempt (turns.date_of system t chosen.thread after) k.running stopped e refl (λ own. omega arith))
      (quiet k.running (silent k) refl)
  preempts_by-spends (Some chosen) None k e = quiet k.running (silent k) refl
  preempts_by-spends None best k e = quiet k.running (silent k) refl

  chooses_of-spends : (o : Option Chosen) (best : Option Queued) (k : Core) → k.running ≡ o → Spends k.running (turns.chooses_of by_priority system t o best k)
  chooses_of-spends (Some chosen) best k e = quiet k.running (silent k) refl
  chooses_of-spends None None k e = quiet k.running (silent k) refl
  chooses_of-spends None (Some best) k e = omega (arith, ap used e)

  -- the end of the tick
  effect-running : (y : ℕ) (item : Option Item) (k : Core) → (turns.takes_effect by_priority system c t y item k).core.running ≡ k.running
  effect-running y (Some (Signal note badge)) k =
      let sent = (turns.signals by_priority system c t y note badge k).core in
      placed.moves-running system t x y (turns.move_of system y sent) sent ∙ placed.signals-running system c t x y note badge k
  effect-running y (Some (Wait note)) k = by (waited (note_of k note))
    where
      by : (w : Waited) → (turns.waits_as system t y note w k).core.running ≡ k.running
      by (Got word) =
          let given = turns.given system t y word (with_note note (after_wait (Got word) (turns.queued y k) (note_of k note)) k) in
          placed.moves-running system t x y (turns.move_of system y given) given
      by Blocks = refl
  effect-running y (Some (Compute ticks)) k = placed.moves-running system t x y (turns.move_of system y k) k
  effect-running y (Some Yield) k = placed.moves-running system t x y (turns.move_of system y k) k
  effect-running y (Some (On badges)) k = placed.moves-running system t x y (turns.move_of system y k) k
  effect-running y (Some Spin) k = placed.moves-running system t x y (turns.move_of system y k) k
  effect-running y (Some (Enter server priority)) k = by (waited (note_of k server))
    where
      by : (w : Waited) → (turns.enters_as system t y server w k).core.running ≡ k.running
      by (Got word) =
          let taken = with_note server (after_wait (Got word) (turns.queued y k) (note_of k server)) k in
          placed.moves-running system t x y (turns.move_of system y taken) taken
      by Blocks = refl
  effect-running y (Some (Leave server priority)) k =
      let freed = (turns.frees by_priority system t y server k).core in
      placed.moves-running system t x y (turns.move_of system y freed) freed ∙ placed.frees-running system t x y server k
  effect-running y None k = refl

  moves-contexts : (y : ℕ) (m : Moved) (k : Core) → (turns.moves system t y m k).core.contexts ≡ k.contexts
  moves-contexts y Next k = refl
  moves-contexts y RoundEnds k = refl
  moves-contexts y AllDone k = refl

  spent-spends : (y using : ℕ) (k : Core) → k.running ≡ Some (record { thread = y; using = using }) → Spends k.running (turns.may_stop by_priority system t y using after.GoesOn k)
  spent-spends y using k e =
      let stopped = turns.stops_to_back by_priority system t y why.Spent using k in
      by_test k.running (using == head_amount (turns.its_context system y k)) stopped (silent k)
      (stop y using using why.Spent (turns.date_of system t y (turns.charged system y using k)) k.running stopped e refl (λ own. omega arith))
      (quiet k.running (silent k) refl)

  -- a yield charges the whole head, and at most that is in use
  may_stop-spends : (y using : ℕ) (cause : AfterItem) (k : Core) → k.running ≡ Some (record { thread = y; using = using }) →
      (cause ≡ after.Yields → y ≡ x → using ≤ head_amount (turns.its_context system y k)) → Spends k.running (turns.may_stop by_priority system t y using cause k)
  may_stop-spends y using after.Ends k e l = stop y using using why.Done None k.running (turns.may_stop by_priority system t y using after.Ends k) e refl (λ own. omega arith)
  may_stop-spends y using after.Blocks k e l = stop y using using why.Wait None k.running (turns.may_stop by_priority system t y using after.Blocks k) e refl (λ own. omega arith)
  may_stop-spends y using after.Calls k e l = stop y using using why.Call None k.running (turns.may_stop by_priority system t y using after.Calls k) e refl (λ own. omega arith)
  may_stop-spends y using after.Yields k e l =
      let whole = head_amount (turns.its_context system y k) in
      stop y using whole why.Yield (turns.date_of system t y (turns.charged system y whole k)) k.running (turns.stops_to_back by_priority system t y why.Yield whole k) e refl (l refl)
  may_stop-spends y using after.GoesOn k e l = spent-spends y using k e

  moved-yields : (m : Moved) → turns.after_move m after.GoesOn ≡ after.Yields → ⊥
  moved-yields Next e = cc
  moved-yields RoundEnds e = cc
  moved-yields AllDone e = cc

  waited-yields : (w : Waited) → turns.after_waited w ≡ after.Yields → ⊥
  waited-yields (Got word) e = cc
  waited-yields Blocks e = cc

  entered-yields : (w : Waited) → turns.after_entered w ≡ after.Yields → ⊥
  entered-yields (Got word) e = cc
  entered-yields Blocks e = cc

  no_yield : after.GoesOn ≡ after.Yields → ⊥
  no_yield e = cc

  finishes-spends : (y using : ℕ) (item : Option Item) (k : Core) → k.running ≡ Some (record { thread = y; using = using }) →
      (y ≡ x → using ≤ head_amount (turns.its_context system y k)) → Spends k.running (turns.finishes by_priority system c t y using item k)
  finishes-spends y using item k e l =
      let effect = turns.takes_effect by_priority system c t y item k in
      then_spends k.running effect (turns.may_stop by_priority system t y using (turns.after_item system y item k))
      (quiet k.running effect (effect-running y item k))
      (may_stop-spends y using (turns.after_item system y item k) effect.core (effect-running y item k ∙ e) (by item))
    where
      by : (i : Option Item) → turns.after_item system y i k ≡ after.Yields → y ≡ x →
          using ≤ head_amount (turns.its_context system y (turns.takes_effect by_priority system c t y i k).core)
      by (Some (Signal note badge)) f own = absurd (moved-yields (turns.move_of system y k) f)
      by (Some (Wait note)) f own = absurd (waited-yields (waited (note_of k note)) f)
      by (Some (Compute ticks)) f own = absurd (moved-yields (turns.move_of system y k) f)
      by (Some Yield) f own = omega (arith, l own, ap (λ contexts. head_amount (held (thread_part system y).context contexts)) (moves-contexts y (turns.move_of system y k) k))
      by (Some (On badges)) f own = absurd (moved-yields (turns.move_of system y k) f)
      by (Some Spin) f own = absurd (moved-yields (turns.move_of system y k) f)
      by (Some (Enter server priority)) f own = absurd (entered-yields (waited (note_of k server)) f)
      by (Some (Leave server priority)) f own = absurd (moved-yields (turns.move_of system y k) f)
      by None f own = absurd (no_yield f)

  after_count-spends : (y using : ℕ) (k : Core) → k.running ≡ Some (record { thread = y; using = using }) →
      (y ≡ x → using ≤ head_amount (turns.its_context system y k)) → Spends k.running (turns.after_count by_priority system c t y using k)
  after_count-spends y using k e l =
      by_test k.running ((thread_of k y).place.left == 0) (turns.finishes by_priority system c t y using (turns.item_of system y k) k)
      (turns.may_stop by_priority system t y using after.GoesOn k)
      (finishes-spends y using (turns.item_of system y k) k e l) (spent-spends y using k e)

  -- the thread has used less than the head
  abbrev pub UsesLess : Option Chosen → Core → Type 0
  UsesLess None k = Unit {0}
  UsesLess (Some chosen) k = chosen.thread ≡ x → chosen.using < head_amount (context_of k own_context)

  tick_of-spends : (o : Option Chosen) (k : Core) → k.running ≡ o → UsesLess o k →
      used o + times_running x o ≤ charged_by (turns.tick_of by_priority system c t o k).rows + used (turns.tick_of by_priority system c t o k).core.running
  tick_of-spends None k e l = omega arith
  tick_of-spends (Some chosen) k e l =
      omega (arith, one_more (chosen.thread == x), after_count-spends chosen.thread (chosen.using + 1) (turns.counts chosen k) refl less)
    where
      one_more : (b : Bool) → cond b chosen.using 0 + cond b 1 0 ≡ cond b (chosen.using + 1) 0
      one_more true = omega arith
      one_more false = omega arith

      less : chosen.thread ≡ x → chosen.using + 1 ≤ head_amount (turns.its_context system chosen.thread k)
      less own = let P : ℕ → Type 0 = λ y. chosen.using + 1 ≤ head_amount (turns.its_context system y k) in subst P (sym own) (omega (arith, l own))

  -- a whole turn charges what was in use and the tick that ends, but for what is then in use
  pub turn-spends : (mails : List Mail) (k : Core) → UsesLess k.running k →
      used k.running + times_running x k.running
      ≤ charged_by (turns.turn_with by_priority system c t mails k).rows + used (turns.turn_with by_priority system c t mails k).core.running
  turn-spends mails k l =
      omega (
        arith,
        tick_of-spends k.running k refl l,
        each-spends (turns.interrupts by_priority system t) interrupts-spends (ringing t (alarms_at system c t)) first.core,
        each-spends (turns.arrives by_priority system t) arrives-spends mails rang.core,
        each-spends (turns.obeys by_priority system t) obeys-spends orders second.core,
        releases-spends third.core,
        preempts_by-spends fourth.core.running (first_of fourth.core.ready) fourth.core refl,
        chooses_of-spends fifth.core.running (first_of fifth.core.ready) fifth.core refl,
        charged-append first.rows (each (turns.interrupts by_priority system t) (ringing t (alarms_at system c t)) first.core).rows,
        charged-append rang.rows (each (turns.arrives by_priority system t) mails rang.core).rows,
        charged-append second.rows (each (turns.obeys by_priority system t) orders second.core).rows,
        charged-append third.rows (turns.releases by_priority system t third.core).rows,
        charged-append fourth.rows (turns.preempts by_priority system t fourth.core).rows,
        charged-append fifth.rows (turns.chooses by_priority system t fifth.core).rows,
      )
    where
      orders : List Order
      orders = filter (is_for_now system c t) system.orders

      first : Turn
      first = turns.tick by_priority system c t k

      rang : Turn
      rang = first followed_by each (turns.interrupts by_priority system t) (ringing t (alarms_at system c t))

      second : Turn
      second = rang followed_by each (turns.arrives by_priority system t) mails

      third : Turn
      third = second followed_by each (turns.obeys by_priority system t) orders

      fourth : Turn
      fourth = third followed_by turns.releases by_priority system t

      fifth : Turn
      fifth = fourth followed_by turns.preempts by_priority system t
