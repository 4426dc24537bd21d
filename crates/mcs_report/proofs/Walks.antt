-- On each core no thread runs before the one that runs has stopped.
use Rattle.std.proofs.Common.{◌≡◌, ℕ, ◌+◌, Bool, true, false, not, cond, ◌==◌, List, [], ◌∷◌, ◌++◌, Option, Some, None, refl, sym, ap, subst, ◌∙◌, arith}
use Rattle.std.specs.Prelude.{filter, nat_lt}
use Rattle.std.proofs.lemmas.Bool.{cond_both}
use Rattle.mcs_ticks.specs.Queue.{by_priority, first_of}
use Rattle.mcs_ticks.specs.declared.queue.Queued.{Queued}
use Rattle.mcs_ticks.specs.declared.row.What.{What}
use Rattle.mcs_ticks.specs.declared.row.What.TheVariants as row
use Rattle.mcs_ticks.specs.declared.row.Why.{Why}
use Rattle.mcs_ticks.specs.declared.row.Why.TheVariants as why
use Rattle.mcs_control.specs.declared.config.Order.{Order}
use Rattle.mcs_control.specs.Context.{head_amount}
use Rattle.mcs_notify.specs.Note.{posted, after_post, waited, after_wait}
use Rattle.mcs_notify.specs.declared.posted.Posted.{Posted}
use Rattle.mcs_notify.specs.declared.posted.Posted.TheVariants.{Woke, Held}
use Rattle.mcs_notify.specs.declared.posted.Waited.{Waited}
use Rattle.mcs_notify.specs.declared.posted.Waited.TheVariants.{Got, Blocks}
use Rattle.mcs_script.specs.declared.item.Item.{Item}
use Rattle.mcs_script.specs.declared.item.Item.TheVariants.{Compute, Signal, Wait, Yield, On, Spin, Enter, Leave}
use Rattle.mcs_script.specs.declared.moved.Moved.{Moved}
use Rattle.mcs_release.specs.declared.dated.Dated.{Dated}
use Rattle.mcs_mail.specs.declared.mail.Mail.{Mail}
use Rattle.mcs_core.specs.Alarms.{ringing, alarms_at}
use Rattle.mcs_core.specs.declared.alarm.Alarm.{Alarm}
use Rattle.mcs_core.specs.declared.standing.AfterItem.{AfterItem}
use Rattle.mcs_core.specs.declared.standing.AfterItem.TheVariants as after
use Rattle.mcs_core.specs.declared.standing.Chosen.{Chosen}
use Rattle.mcs_core.specs.declared.standing.Standing.TheVariants.{Blocked, Done}
use Rattle.mcs_system.specs.System.{System}
use Rattle.mcs_core.specs.Core.{Core, note_of, thread_of, with_note, off}
use Rattle.mcs_release.specs.Release.{is_due}
use Rattle.mcs_core.specs.Turn as turns
use Rattle.mcs_core.specs.Turn.{Turn, each, silent, ◌followed_by◌, is_for_now}
use Rattle.mcs_report.specs.Reports.{runs, stops}

module _ (x : ℕ) where
  -- whether the thread runs after this row
  abbrev pub after_row : What → Bool → Bool
  after_row what going = cond (runs x what) true (cond (stops x what) false going)

  -- from whether the thread runs before the rows to whether it runs after them: it begins to run
  -- only if it does not run
  abbrev pub Walks : Bool → List What → Bool → Type 0
  Walks before [] last = before ≡ last
  Walks before (what ∷ rows) last = (runs x what ≡ true → before ≡ false) × Walks (after_row what before) rows last

  -- whether no row is of a run or a stop of the thread
  abbrev pub plain : List What → Bool
  plain [] = true
  plain (what ∷ rows) = cond (runs x what) false (cond (stops x what) false (plain rows))

  pub walks-append : (rows more : List What) (a b c : Bool) → Walks a rows b → Walks b more c → Walks a (rows ++ more) c
  walks-append [] more a b c first second = let P : Bool → Type 0 = λ d. Walks d more c in subst P (sym first) second
  walks-append (what ∷ rows) more a b c first second = (first.0, walks-append rows more (after_row what a) b c first.1 second)

  plain-append : (rows more : List What) → plain (rows ++ more) ≡ cond (plain rows) (plain more) false
  plain-append [] more = refl
  plain-append (what ∷ rows) more = grind (arith, plain-append rows more)

  plain-both : (rows more : List What) → plain rows ≡ true → plain more ≡ true → plain (rows ++ more) ≡ true
  plain-both rows more p q = rw (plain-append rows more, p) q

  pub walks-plain : (rows : List What) (going : Bool) → plain rows ≡ true → Walks going rows going
  walks-plain [] going h = refl
  walks-plain (what ∷ rows) going h =
      let run : runs x what ≡ false = grind (arith, h) in
      let stop : stops x what ≡ false = grind (arith, h) in
      let rest : plain rows ≡ true = grind (arith, h) in
      rw (run, stop) (λ e. cc, walks-plain rows going rest)

  -- whether the thread is the one that runs
  abbrev pub is_open : Option Chosen → Bool
  is_open None = false
  is_open (Some chosen) = chosen.thread == x

  -- a part of a turn without a run or a stop
  pub record Plain (k : Core) (turn : Turn) : Type 0 where
    pub running : turn.core.running ≡ k.running
    pub rows : plain turn.rows ≡ true

  -- a part that may stop the running thread
  pub record Quits (k : Core) (turn : Turn) : Type 0 where
    pub walks : Walks (is_open k.running) turn.rows (is_open turn.core.running)
    pub plain : is_open k.running ≡ false → (is_open turn.core.running ≡ false) × (plain turn.rows ≡ true)

  plain-then : (k : Core) (first : Turn) (part : Core → Turn) → Plain k first → Plain first.core (part first.core) → Plain k (first followed_by part)
  plain-then k first part p q = record { running = q.running ∙ p.running; rows = plain-both first.rows (part first.core).rows p.rows q.rows }

  plain-quits : (k : Core) (turn : Turn) → Plain k turn → Quits k turn
  plain-quits k turn p =
      let same : is_open turn.core.running ≡ is_open k.running = ap is_open p.running in
      record { walks = subst (λ (b : Bool). Walks (is_open k.running) turn.rows b) (sym same) (walks-plain turn.rows (is_open k.running) p.rows); plain = λ e. (same ∙ e, p.rows) }

  quits-then : (k : Core) (first : Turn) (part : Core → Turn) → Quits k first → Quits first.core (part first.core) → Quits k (first followed_by part)
  quits-then k first part p q =
      record {
        walks = walks-append first.rows (part first.core).rows (is_open k.running) (is_open first.core.running) (is_open (part first.core).core.running) p.walks q.walks;
        plain = λ e. let f = p.plain e in let g = q.plain f.0 in (g.0, plain-both first.rows (part first.core).rows f.1 g.1);
      }

  quits-each : {A : Type 0} (part : A → Core → Turn) → ((item : A) (k : Core) → Quits k (part item k)) → (items : List A) (k : Core) → Quits k (each part items k)
  quits-each part h [] k = plain-quits k (silent k) record { running = refl; rows = refl }
  quits-each part h (item ∷ items) k =
      quits-then k (part item k) (each part items) (h item k) (quits-each part h items (part item k).core)

  -- the running thread stops
  quits-stop : (y k using : ℕ) (cause : Why) (date : Option ℕ) (from : Core) (turn : Turn) → from.running ≡ Some (record { thread = y; using = using })
      → turn.rows ≡ row.Stop y cause k date ∷ [] → turn.core.running ≡ None → Quits from turn
  quits-stop y k using cause date from turn e rows gone =
      record {
        walks = rw (rows, gone, e) (λ f. cc, grind arith);
        plain = λ f. (ap is_open gone, rw rows (let other : (y == x) ≡ false = sym (ap is_open e) ∙ f in rw other refl));
      }

-- the parts of a turn
module _ (system : System) (t x : ℕ) where
  enters_back-running : (y : ℕ) (date : Option ℕ) (k : Core) → (turns.enters_back by_priority y date k).running ≡ k.running
  enters_back-running y date k = grind arith

  enters_front-running : (y : ℕ) (date : Option ℕ) (k : Core) → (turns.enters_front by_priority y date k).running ≡ k.running
  enters_front-running y date k = grind arith

  moves-plain : (y : ℕ) (move : Moved) (k : Core) → Plain x k (turns.moves system t y move k)
  moves-plain y move k = grind arith

  posts_as-plain : (note : ℕ) (post : Posted) (k : Core) → Plain x k (turns.posts_as by_priority system t note post k)
  posts_as-plain note (Woke y word) k =
      let woken = turns.given system t y word (turns.with_woken_context system t y (with_note note (after_post (Woke y word) (note_of k note)) k)) in
      let first = turns.moves_on system t y woken in
      let p = moves-plain y (turns.move_of system y woken) woken in
      record { running = enters_back-running y (turns.date_of system t y first.core) first.core ∙ p.running; rows = plain-both x first.rows [] p.rows refl }
  posts_as-plain note (Held word) k = record { running = refl; rows = refl }

  frees_as-plain : (server : ℕ) (post : Posted) (k : Core) → Plain x k (turns.frees_as by_priority system t server post k)
  frees_as-plain server (Woke y word) k =
      let woken = turns.with_woken_context system t y (with_note server (after_post (Woke y word) (note_of k server)) k) in
      let first = turns.moves_on system t y woken in
      let p = moves-plain y (turns.move_of system y woken) woken in
      record { running = enters_front-running y (turns.date_of system t y first.core) first.core ∙ p.running; rows = plain-both x first.rows [] p.rows refl }
  frees_as-plain server (Held word) k = record { running = refl; rows = refl }

  frees-plain : (y server : ℕ) (k : Core) → Plain x k (turns.frees by_priority system t y server k)
  frees-plain y server k = let p = frees_as-plain server (posted 1 (note_of k server)) k in record { running = p.running; rows = p.rows }

  interrupts-quits : (alarm : Alarm) (k : Core) → Quits x k (turns.interrupts by_priority system t alarm k)
  interrupts-quits alarm k =
      let p = posts_as-plain alarm.note (posted alarm.badge (note_of k alarm.note)) k in
      plain-quits x k (turns.interrupts by_priority system t alarm k) record { running = p.running; rows = p.rows }

  arrives-quits : (mail : Mail) (k : Core) → Quits x k (turns.arrives by_priority system t mail k)
  arrives-quits mail k =
      let p = posts_as-plain mail.note (posted mail.badge (note_of k mail.note)) k in
      plain-quits x k (turns.arrives by_priority system t mail k) record { running = p.running; rows = p.rows }

  silent-quits : (k after : Core) → after.running ≡ k.running → Quits x k (silent after)
  silent-quits k after e = plain-quits x k (silent after) record { running = e; rows = refl }

  stops_to_front-quits : (y using k : ℕ) (cause : Why) (from core : Core) → from.running ≡ Some (record { thread = y; using = using })
      → Quits x from (turns.stops_to_front by_priority system t y cause k core)
  stops_to_front-quits y using k cause from core e =
      quits-stop x y k using cause (turns.date_of system t y core) from (turns.stops_to_front by_priority system t y cause k core) e refl
      (enters_front-running y (turns.date_of system t y core) (off core))

  orders_running-quits : (order : Order) (o : Option Chosen) (k : Core) → k.running ≡ o → Quits x k (turns.orders_running by_priority system t order o k)
  orders_running-quits order None k e = silent-quits k (turns.applied t order k) refl
  orders_running-quits order (Some chosen) k e =
      let core = turns.applied t order (turns.charged system chosen.thread chosen.using k) in
      cond_both ((turns.part_of system chosen.thread).context == order.context) _ (silent (turns.applied t order k)) (Quits x k)
      (λ i. stops_to_front-quits chosen.thread chosen.using chosen.using why.Order k core e)
      (λ i. silent-quits k (turns.applied t order k) refl)

  obeys-quits : (order : Order) (k : Core) → Quits x k (turns.obeys by_priority system t order k)
  obeys-quits order k = let q = orders_running-quits order k.running k refl in record { walks = (λ e. cc, q.walks); plain = q.plain }

  released-quits : (due : Dated) (k : Core) → Quits x k (turns.released by_priority due k)
  released-quits due k = plain-quits x k (turns.released by_priority due k) record { running = refl; rows = refl }

  releases-quits : (k : Core) → Quits x k (turns.releases by_priority system t k)
  releases-quits k =
      let left = record k { releases = filter (λ dated. not (is_due t dated)) k.releases } in
      let q = quits-each x (turns.released by_priority) released-quits (filter (is_due t) k.releases) left in
      record { walks = q.walks; plain = q.plain }

  preempts_by-quits : (o : Option Chosen) (best : Option Queued) (k : Core) → k.running ≡ o → Quits x k (turns.preempts_by by_priority system t o best k)
  preempts_by-quits (Some chosen) (Some best) k e =
      let core = turns.charged system chosen.thread chosen.using k in
      cond_both (nat_lt (thread_of k chosen.thread).place.priority best.priority) _ (silent k) (Quits x k)
      (λ i. stops_to_front-quits chosen.thread chosen.using chosen.using why.Preempt k core e)
      (λ i. silent-quits k k refl)
  preempts_by-quits (Some chosen) None k e = silent-quits k k refl
  preempts_by-quits None best k e = silent-quits k k refl

-- the end of the tick, the choice, and the whole turn
module _ (system : System) (c t x : ℕ) where
  stops_to_back-quits : (y using k : ℕ) (cause : Why) (core : Core) → core.running ≡ Some (record { thread = y; using = using })
      → Quits x core (turns.stops_to_back by_priority system t y cause k core)
  stops_to_back-quits y using k cause core e =
      let after = turns.charged system y k core in
      quits-stop x y k using cause (turns.date_of system t y after) core (turns.stops_to_back by_priority system t y cause k core) e refl
      (enters_back-running system t x y (turns.date_of system t y after) (off after))

  may_stop-quits : (y using : ℕ) (cause : AfterItem) (k : Core) → k.running ≡ Some (record { thread = y; using = using })
      → Quits x k (turns.may_stop by_priority system t y using cause k)
  may_stop-quits y using after.Ends k e = quits-stop x y using using why.Done None k (turns.stops system y why.Done using Done k) e refl refl
  may_stop-quits y using after.Blocks k e = quits-stop x y using using why.Wait None k (turns.stops system y why.Wait using Blocked k) e refl refl
  may_stop-quits y using after.Calls k e = quits-stop x y using using why.Call None k (turns.stops system y why.Call using Blocked k) e refl refl
  may_stop-quits y using after.Yields k e = stops_to_back-quits y using (head_amount (turns.its_context system y k)) why.Yield k e
  may_stop-quits y using after.GoesOn k e =
      cond_both (using == head_amount (turns.its_context system y k)) _ (silent k) (Quits x k)
      (λ i. stops_to_back-quits y using using why.Spent k e)
      (λ i. silent-quits system t x k k refl)

  signals-plain : (y note badge : ℕ) (k : Core) → Plain x k (turns.signals by_priority system c t y note badge k)
  signals-plain y note badge k = grind (arith, posts_as-plain system t x note (posted badge (note_of k note)) k)

  waits_as-plain : (y note : ℕ) (w : Waited) (k : Core) → Plain x k (turns.waits_as system t y note w k)
  waits_as-plain y note (Got word) k =
      let given = turns.given system t y word (with_note note (after_wait (Got word) (turns.queued y k) (note_of k note)) k) in
      let p = moves-plain system t x y (turns.move_of system y given) given in
      record { running = p.running; rows = p.rows }
  waits_as-plain y note Blocks k = record { running = refl; rows = refl }

  enters_as-plain : (y server : ℕ) (w : Waited) (k : Core) → Plain x k (turns.enters_as system t y server w k)
  enters_as-plain y server (Got word) k =
      let taken = with_note server (after_wait (Got word) (turns.queued y k) (note_of k server)) k in
      let p = moves-plain system t x y (turns.move_of system y taken) taken in
      record { running = p.running; rows = p.rows }
  enters_as-plain y server Blocks k = record { running = refl; rows = refl }

  effect-plain : (y : ℕ) (item : Option Item) (k : Core) → Plain x k (turns.takes_effect by_priority system c t y item k)
  effect-plain y (Some (Signal note badge)) k =
      let first = turns.signals by_priority system c t y note badge k in
      plain-then x k first (turns.moves_on system t y) (signals-plain y note badge k) (moves-plain system t x y (turns.move_of system y first.core) first.core)
  effect-plain y (Some (Wait note)) k = waits_as-plain y note (waited (note_of k note)) k
  effect-plain y (Some (Compute ticks)) k = moves-plain system t x y (turns.move_of system y k) k
  effect-plain y (Some Yield) k = moves-plain system t x y (turns.move_of system y k) k
  effect-plain y (Some (On badges)) k = moves-plain system t x y (turns.move_of system y k) k
  effect-plain y (Some Spin) k = moves-plain system t x y (turns.move_of system y k) k
  effect-plain y (Some (Enter server priority)) k = enters_as-plain y server (waited (note_of k server)) k
  effect-plain y (Some (Leave server priority)) k =
      let first = turns.frees by_priority system t y server k in
      plain-then x k first (turns.moves_on system t y) (frees-plain system t x y server k) (moves-plain system t x y (turns.move_of system y first.core) first.core)
  effect-plain y None k = record { running = refl; rows = refl }

  finishes-quits : (y using : ℕ) (item : Option Item) (k : Core) → k.running ≡ Some (record { thread = y; using = using })
      → Quits x k (turns.finishes by_priority system c t y using item k)
  finishes-quits y using item k e =
      let effect = turns.takes_effect by_priority system c t y item k in
      let cause = turns.after_item system y item k in
      let p = effect-plain y item k in
      quits-then x k effect (turns.may_stop by_priority system t y using cause) (plain-quits x k effect p) (may_stop-quits y using cause effect.core (p.running ∙ e))

  after_count-quits : (y using : ℕ) (k : Core) → k.running ≡ Some (record { thread = y; using = using })
      → Quits x k (turns.after_count by_priority system c t y using k)
  after_count-quits y using k e =
      cond_both ((thread_of k y).place.left == 0) _ _ (Quits x k)
      (λ i. finishes-quits y using (turns.item_of system y k) k e)
      (λ i. may_stop-quits y using after.GoesOn k e)

  tick_of-quits : (o : Option Chosen) (k : Core) → k.running ≡ o → Quits x k (turns.tick_of by_priority system c t o k)
  tick_of-quits None k e = silent-quits system t x k k refl
  tick_of-quits (Some chosen) k e =
      let q = after_count-quits chosen.thread (chosen.using + 1) (turns.counts chosen k) refl in
      record { walks = rw e q.walks; plain = λ f. q.plain (sym (ap (is_open x) e) ∙ f) }

  -- a turn, or its last part: the thread may begin to run
  pub record Turns (k : Core) (turn : Turn) : Type 0 where
    pub walks : Walks x (is_open x k.running) turn.rows (is_open x turn.core.running)
    pub plain : is_open x k.running ≡ false → is_open x turn.core.running ≡ false → plain x turn.rows ≡ true

  quits-turns : (k : Core) (turn : Turn) → Quits x k turn → Turns k turn
  quits-turns k turn q = record { walks = q.walks; plain = λ e f. (q.plain e).1 }

  turns-last : (k : Core) (first : Turn) (part : Core → Turn) → Quits x k first → Turns first.core (part first.core) → Turns k (first followed_by part)
  turns-last k first part p q =
      record {
        walks = walks-append x first.rows (part first.core).rows (is_open x k.running) (is_open x first.core.running) (is_open x (part first.core).core.running) p.walks q.walks;
        plain = λ e f. let g = p.plain e in plain-both x first.rows (part first.core).rows g.1 (q.plain g.0 f);
      }

  chooses_of-turns : (o : Option Chosen) (best : Option Queued) (k : Core) → k.running ≡ o → Turns k (turns.chooses_of by_priority system t o best k)
  chooses_of-turns (Some chosen) best k e = quits-turns k (silent k) (silent-quits system t x k k refl)
  chooses_of-turns None None k e = quits-turns k (silent k) (silent-quits system t x k k refl)
  chooses_of-turns None (Some best) k e =
      let shut : is_open x k.running ≡ false = ap (is_open x) e in
      record { walks = (λ f. shut, rw shut (grind arith)); plain = λ f g. rw g refl }

  pub turn-turns : (mails : List Mail) (k : Core) → Turns k (turns.turn_with by_priority system c t mails k)
  turn-turns mails k =
      let first = turns.tick by_priority system c t k in
      let rung = first followed_by each (turns.interrupts by_priority system t) (ringing t (alarms_at system c t)) in
      let second = rung followed_by each (turns.arrives by_priority system t) mails in
      let third = second followed_by each (turns.obeys by_priority system t) (filter (is_for_now system c t) system.orders) in
      let fourth = third followed_by turns.releases by_priority system t in
      let fifth = fourth followed_by turns.preempts by_priority system t in
      let one =
      quits-then x k first (each (turns.interrupts by_priority system t) (ringing t (alarms_at system c t))) (tick_of-quits k.running k refl)
      (quits-each x (turns.interrupts by_priority system t) (interrupts-quits system t x) (ringing t (alarms_at system c t)) first.core)
      in
      let two = quits-then x k rung (each (turns.arrives by_priority system t) mails) one (quits-each x (turns.arrives by_priority system t) (arrives-quits system t x) mails rung.core) in
      let three =
      quits-then x k second (each (turns.obeys by_priority system t) (filter (is_for_now system c t) system.orders)) two
      (quits-each x (turns.obeys by_priority system t) (obeys-quits system t x) (filter (is_for_now system c t) system.orders) second.core)
      in
      let four = quits-then x k third (turns.releases by_priority system t) three (releases-quits system t x third.core) in
      let five = quits-then x k fourth (turns.preempts by_priority system t) four (preempts_by-quits system t x fourth.core.running (first_of fourth.core.ready) fourth.core refl) in
      turns-last k fifth (turns.chooses by_priority system t) five (chooses_of-turns fifth.core.running (first_of fifth.core.ready) fifth.core refl)
