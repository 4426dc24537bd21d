-- Quiet turns: when a turn is quiet, and what many of them make.
use Rattle.std.proofs.Common.{◌≡◌, ◌≢◌, ℕ, zero, suc, ◌+◌, ◌<◌, Bool, true, false, cond, List, [], ◌∷◌, ◌++◌, length, set, get_or, refl, sym, ap, subst, ◌∙◌, arith, get_or-set_same, add-zero}
use Rattle.std.proofs.lemmas.List.{set-get_or}
use Rattle.std.proofs.Math.ListN.{length-set}
use Rattle.mcs_script.specs.declared.item.Item.{Item}
use Rattle.mcs_script.specs.declared.item.Item.TheVariants.{Compute, Signal, Wait, Yield, On, Spin, Enter, Leave}
use Rattle.mcs_notify.specs.Note.{waited}
use Rattle.mcs_notify.specs.declared.posted.Waited.{Waited}
use Rattle.mcs_notify.specs.declared.posted.Waited.TheVariants.{Got, Blocks}
use Rattle.mcs_script.specs.declared.moved.Moved.TheVariants.{Next, RoundEnds, AllDone}
use Rattle.mcs_script.specs.Script.{is_wait, left_after, next_of, move_by, place_after}
use Rattle.mcs_script.proofs.Steps.{next-later, left-none, left-more}
use Rattle.mcs_core.specs.Alarms.{ringing, alarms_at}
use Rattle.mcs_core.specs.declared.alarm.Alarm.{Alarm}
use Rattle.std.specs.Prelude.{◌==◌, ◌&&◌, not, nat_le, filter, Option, Some, None, unwrap_or}
use Rattle.std.specs.List.{slice_get}
use Rattle.std.proofs.lemmas.Bool.Decides.{nat_tests}
use Rattle.mcs_ticks.specs.Queue.{Discipline, by_priority, first_of}
use Rattle.mcs_ticks.specs.declared.queue.Queued.{Queued}
use Rattle.mcs_ticks.specs.declared.row.Why.TheVariants as why
use Rattle.mcs_control.specs.declared.config.Order.{Order}
use Rattle.mcs_control.specs.Context.{head_amount}
use Rattle.mcs_mail.specs.declared.mail.Mail.{Mail}
use Rattle.mcs_mail.specs.Box.{arriving, staying}
use Rattle.mcs_release.specs.Release.{is_due}
use Rattle.mcs_core.specs.declared.standing.Chosen.{Chosen}
use Rattle.mcs_system.specs.System.{System, thread_part}
use Rattle.mcs_core.specs.Core.{Core, thread_of, note_of, no_state}
use Rattle.mcs_core.specs.Turn.{placed, Turn, silent, ◌followed_by◌, each, its_context, counts, finishes, stops_to_back, tick, tick_of, interrupts, arrives, obeys, item_of, move_of, waits_as, enters_as, after_waited, after_entered, may_stop, is_for_now, releases, released, preempts, preempts_by, chooses, chooses_of, turn_with}
use Rattle.mcs_core.specs.Run.{ran_with, with_turn}
use Rattle.mcs_core.specs.declared.standing.Thread.{Thread}
use Rattle.mcs_core.specs.Busy.{IsBest, GoesOnAfter, counted_by, counted_for}
use Rattle.mcs_core.specs.Quiet.{counted, counted_of, counted_times, IsQuietWith, AreQuietWith}
use Rattle.mcs_core.proofs.Turning.{releases-none}

append-empty : {A : Type 0} (xs ys : List A) → xs ++ ys ≡ [] → (xs ≡ []) × (ys ≡ [])
append-empty [] ys e = (refl, e)
append-empty (x ∷ xs) ys e = cc

some-within : (items : List Item) (i : ℕ) → i < length items → slice_get items i ≢ None
some-within [] i l e = omega arith
some-within (x ∷ xs) zero l e = cc
some-within (x ∷ xs) (suc i) l e = some-within xs i (omega arith) e

pub set-same : (x : ℕ) (state : Thread) (threads : List Thread) → x < length threads → get_or (set threads x state) x no_state ≡ state
set-same x state threads l = rw get_or-set_same refl

set-set : (threads : List Thread) (x : ℕ) (a b : Thread) → set (set threads x a) x b ≡ set threads x b
set-set [] x a b = refl
set-set (y ∷ ys) zero a b = refl
set-set (y ∷ ys) (suc x) a b = ap (λ zs. y ∷ zs) (set-set ys x a b)

parts-same : (core : Core) (a b : Option Chosen) (xs ys : List Thread) → a ≡ b → xs ≡ ys → record core { running = a; threads = xs } ≡ record core { running = b; threads = ys }
parts-same core a b xs ys e f = rw (e, f) refl

-- however the ready threads are kept
module _ (queue : Discipline) (system : System) (c : ℕ) where
  -- the parts of a turn after the end of the tick
  abbrev pub after_tick : ℕ → List Mail → Turn → Turn
  after_tick t mails first =
      first
      followed_by each (interrupts queue system t) (ringing t (alarms_at system c t))
      followed_by each (arrives queue system t) mails
      followed_by each (obeys queue system t) (filter (is_for_now system c t) system.orders)
      followed_by releases queue system t
      followed_by preempts queue system t
      followed_by chooses queue system t

  pub none-each : {A : Type 0} (part : A → Core → Turn) → ((x : A) (core : Core) → (part x core).rows ≡ [] → ⊥) → (xs : List A) (core : Core) → (each part xs core).rows ≡ [] → xs ≡ []
  none-each part some [] core e = refl
  none-each part some (x ∷ xs) core e = absurd (some x core (append-empty _ _ e).0)

  interrupts-some : (t : ℕ) (alarm : Alarm) (core : Core) → (interrupts queue system t alarm core).rows ≡ [] → ⊥
  interrupts-some t alarm core e = cc

  arrives-some : (t : ℕ) (mail : Mail) (core : Core) → (arrives queue system t mail core).rows ≡ [] → ⊥
  arrives-some t mail core e = cc

  obeys-some : (t : ℕ) (order : Order) (core : Core) → (obeys queue system t order core).rows ≡ [] → ⊥
  obeys-some t order core e = cc

  -- if they make no row, each part makes no row: the end of the tick, arrivals, orders, releases, the
  -- preemption and the choice
  pub record HasNoRow (t : ℕ) (mails : List Mail) (first : Turn) : Type 0 where
    pub ticked : first.rows ≡ []
    pub no_alarm : ringing t (alarms_at system c t) ≡ []
    pub no_mail : mails ≡ []
    pub no_order : filter (is_for_now system c t) system.orders ≡ []
    pub released : (releases queue system t first.core).rows ≡ []
    pub preempted : (preempts queue system t (releases queue system t first.core).core).rows ≡ []
    pub chosen : (chooses queue system t (preempts queue system t (releases queue system t first.core).core).core).rows ≡ []

  pub no-row : (t : ℕ) (mails : List Mail) (first : Turn) → (after_tick t mails first).rows ≡ [] → HasNoRow t mails first
  no-row t mails first e =
      let chosen = append-empty _ _ e in
      let preempted = append-empty _ _ chosen.0 in
      let released = append-empty _ _ preempted.0 in
      let obeyed = append-empty _ _ released.0 in
      let arrived = append-empty _ _ obeyed.0 in
      let rang = append-empty _ _ arrived.0 in
      let alarm = none-each (interrupts queue system t) (interrupts-some t) (ringing t (alarms_at system c t)) first.core rang.1 in
      let mail = none-each (arrives queue system t) (arrives-some t) mails (each (interrupts queue system t) (ringing t (alarms_at system c t)) first.core).core arrived.1 in
      let order = none-each (obeys queue system t) (obeys-some t) (filter (is_for_now system c t) system.orders) (each (arrives queue system t) mails (each (interrupts queue system t) (ringing t (alarms_at system c t)) first.core).core).core obeyed.1 in
      record {
        ticked = rang.0;
        no_alarm = alarm;
        no_mail = mail;
        no_order = order;
        released = rw (order, mail, alarm) at released.1;
        preempted = rw (order, mail, alarm) at preempted.1;
        chosen = rw (order, mail, alarm) at chosen.1;
      }

  pub no_alarm : (t : ℕ) (mails : List Mail) (core : Core) → IsQuietWith queue system c t mails core → ringing t (alarms_at system c t) ≡ []
  no_alarm t mails core q = (no-row t mails (tick queue system c t core) (ap (λ (turn : Turn). turn.rows) q)).no_alarm

  pub no_mail : (t : ℕ) (mails : List Mail) (core : Core) → IsQuietWith queue system c t mails core → mails ≡ []
  no_mail t mails core q = (no-row t mails (tick queue system c t core) (ap (λ (turn : Turn). turn.rows) q)).no_mail

  pub no_order : (t : ℕ) (mails : List Mail) (core : Core) → IsQuietWith queue system c t mails core → filter (is_for_now system c t) system.orders ≡ []
  no_order t mails core q = (no-row t mails (tick queue system c t core) (ap (λ (turn : Turn). turn.rows) q)).no_order

module _ (system : System) (c : ℕ) where
  -- nothing happens after the end of the tick
  pub record IsCalm (t : ℕ) (mails : List Mail) (core : Core) : Type 0 where
    pub no_alarm : ringing t (alarms_at system c t) ≡ []
    pub no_mail : mails ≡ []
    pub no_order : filter (is_for_now system c t) system.orders ≡ []
    pub no_release : filter (is_due t) core.releases ≡ []
    pub best : IsBest core core.running (first_of core.ready)

  preempts-best : (t : ℕ) (o : Option Chosen) (best : Option Queued) (core : Core) → IsBest core o best → preempts_by by_priority system t o best core ≡ silent core
  preempts-best t None best core h = refl
  preempts-best t (Some chosen) None core h = refl
  preempts-best t (Some chosen) (Some best) core h = rw h refl

  chooses-best : (t : ℕ) (o : Option Chosen) (best : Option Queued) (core : Core) → IsBest core o best → chooses_of by_priority system t o best core ≡ silent core
  chooses-best t None None core h = refl
  chooses-best t None (Some best) core h = absurd h
  chooses-best t (Some chosen) best core h = refl

  calm-silent : (t : ℕ) (mails : List Mail) (core : Core) → IsCalm t mails core → after_tick by_priority system c t mails (silent core) ≡ silent core
  calm-silent t mails core h =
      rw (
        h.no_alarm,
        h.no_mail,
        h.no_order,
        releases-none system t core h.no_release,
        preempts-best t core.running (first_of core.ready) core h.best,
        chooses-best t core.running (first_of core.ready) core h.best,
      ) refl

  -- the thread that has counted a tick
  counted-thread : (chosen : Chosen) (core : Core) → chosen.thread < length core.threads →
      thread_of (counts chosen core) chosen.thread ≡ record (thread_of core chosen.thread) { place = record ((thread_of core chosen.thread).place) { left = left_after 1 (thread_of core chosen.thread).place.left } }
  counted-thread chosen core l = set-same chosen.thread _ core.threads l

  -- the end of the tick of a thread that continues
  tick-goes : (t : ℕ) (o : Option Chosen) (core : Core) → ((chosen : Chosen) → o ≡ Some chosen → chosen.thread < length core.threads) → GoesOnAfter system 0 o core → tick_of by_priority system c t o core ≡ silent (counted_of system c o core)
  tick-goes t None core k h = refl
  tick-goes t (Some chosen) core k h =
      let l : chosen.thread < length core.threads = k chosen refl in
      rw (
        ap (λ (thread : Thread). thread.place.left == 0) (counted-thread chosen core l) ∙ over (thread_of core chosen.thread).place.left h.0,
        other chosen.using (head_amount (its_context system chosen.thread core)) h.1,
      ) refl
    where
      over : (n : ℕ) → 1 < left_after 0 n → (left_after 1 n == 0) ≡ false
      over n h = grind (arith, nat_tests)

      other : (n m : ℕ) → n + 0 + 1 ≢ m → (n + 1 == m) ≡ false
      other n m h = grind (arith, nat_tests)

  -- a turn is quiet when the running thread continues and no other event comes
  pub quiet-when : (t : ℕ) (mails : List Mail) (core : Core) → ((chosen : Chosen) → core.running ≡ Some chosen → chosen.thread < length core.threads) →
      GoesOnAfter system 0 core.running core → IsCalm t mails (counted system c core) → IsQuietWith by_priority system c t mails core
  quiet-when t mails core k goes calm = ap (after_tick by_priority system c t mails) (tick-goes t core.running core k goes) ∙ calm-silent t mails (counted system c core) calm

  none_preempted : (t : ℕ) (o : Option Chosen) (best : Option Queued) (core : Core) → (preempts_by by_priority system t o best core).rows ≡ [] → preempts_by by_priority system t o best core ≡ silent core
  none_preempted t o best core e = grind arith

  best_is : (t : ℕ) (o : Option Chosen) (best : Option Queued) (core : Core) → (preempts_by by_priority system t o best core).rows ≡ [] → (chooses_of by_priority system t o best core).rows ≡ [] → IsBest core o best
  best_is t None None core e f = tt
  best_is t None (Some best) core e f = cc
  best_is t (Some chosen) None core e f = tt
  best_is t (Some chosen) (Some best) core e f = grind arith

  -- if the parts after the end of the tick make no row, nothing happens in them
  calm-rows : (t : ℕ) (mails : List Mail) (core : Core) → (after_tick by_priority system c t mails (silent core)).rows ≡ [] → IsCalm t mails core
  calm-rows t mails core e =
      let none = no-row by_priority system c t mails (silent core) e in
      let released = none-each by_priority system c (released by_priority) (λ d k e. cc) (filter (is_due t) core.releases) _ none.released in
      let still = releases-none system t core released in
      let preempted : (preempts by_priority system t core).rows ≡ [] = rw still at none.preempted in
      let chosen : (chooses by_priority system t core).rows ≡ [] = rw (still, none_preempted t core.running (first_of core.ready) core preempted) at none.chosen in
      record { no_alarm = none.no_alarm; no_mail = none.no_mail; no_order = none.no_order; no_release = released; best = best_is t core.running (first_of core.ready) core preempted chosen }

  -- a finished item without a row is one that another item follows, and no wait
  pub record IsSilent (t x using : ℕ) (item : Option Item) (core : Core) : Type 0 where
    pub no_wait : is_wait item ≡ false
    pub next : move_of system x core ≡ Next
    pub placed : finishes by_priority system c t x using item core ≡ silent (placed system t x Next (thread_of core x).since core)

  finishes-silent : (t x using : ℕ) (item : Option Item) (core : Core) → item ≢ None → (finishes by_priority system c t x using item core).rows ≡ [] →
      IsSilent t x using item core
  finishes-silent t x using None core some e = absurd (some refl)
  finishes-silent t x using (Some (Signal note badge)) core some e = cc
  finishes-silent t x using (Some (Wait note)) core some e = absurd (by (waited (note_of core note)) e)
    where
      by : (w : Waited) → (waits_as system t x note w core followed_by may_stop by_priority system t x using (after_waited w)).rows ≡ [] → ⊥
      by (Got word) e = cc
      by Blocks e = cc
  finishes-silent t x using (Some (Enter server priority)) core some e = absurd (by (waited (note_of core server)) e)
    where
      by : (w : Waited) → (enters_as system t x server w core followed_by may_stop by_priority system t x using (after_entered w)).rows ≡ [] → ⊥
      by (Got word) e = cc
      by Blocks e = cc
  finishes-silent t x using (Some (Leave server priority)) core some e = cc
  finishes-silent t x using (Some (Compute ticks)) core some e = record { no_wait = refl; next = grind arith; placed = grind arith }
  finishes-silent t x using (Some (On badges)) core some e = record { no_wait = refl; next = grind arith; placed = grind arith }
  finishes-silent t x using (Some Spin) core some e = record { no_wait = refl; next = grind arith; placed = grind arith }
  finishes-silent t x using (Some Yield) core some e = record { no_wait = refl; next = grind arith; placed = grind arith }

  -- a thread that moves on to another item is no quiet turn
  moved-busy : (t : ℕ) (mails : List Mail) (x : ℕ) (core : Core) (first : Turn) → x < length core.threads → is_wait (item_of system x core) ≡ false → move_of system x core ≡ Next → first ≡ silent (placed system t x Next (thread_of core x).since core) →
      after_tick by_priority system c t mails first ≡ silent core → ⊥
  moved-busy t mails x core first l none next e q =
      let k = placed system t x Next (thread_of core x).since core in
      let q' : after_tick by_priority system c t mails (silent k) ≡ silent core = rw e at q in
      let calm = calm-rows t mails k (ap (λ (turn : Turn). turn.rows) q') in
      let same : silent k ≡ silent core = sym (calm-silent t mails k calm) ∙ q' in
      let threads : k.threads ≡ core.threads = ap (λ (turn : Turn). turn.core.threads) same in
      let item : unwrap_or (next_of (thread_part system x).script (thread_of core x).place) 0 ≡ (thread_of core x).place.item =
      sym (ap (λ (thread : Thread). thread.place.item) (set-same x (record { standing = (thread_of core x).standing; place = place_after system.call (thread_part system x).script Next (thread_of core x).place; since = (thread_of core x).since }) core.threads l))
      ∙ ap (λ (ts : List Thread). (get_or ts x no_state).place.item) threads in
      later (next_of (thread_part system x).script (thread_of core x).place) refl next item
    where
      later : (o : Option ℕ) → next_of (thread_part system x).script (thread_of core x).place ≡ o → move_by o (thread_part system x).rounds (thread_of core x).place ≡ Next →
          unwrap_or o 0 ≡ (thread_of core x).place.item → ⊥
      later (Some j) f m g = omega (arith, g, next-later (thread_part system x).script (thread_of core x).place.word (thread_of core x).place.item j none f)
      later None f m g = by (not ((thread_part system x).rounds == 0) && nat_le (thread_part system x).rounds (thread_of core x).place.round) m
        where
          by : (b : Bool) → cond b AllDone RoundEnds ≡ Next → ⊥
          by true h = cc
          by false h = cc

  -- in a quiet turn the running thread continues
  pub quiet-goes : (t : ℕ) (mails : List Mail) (core : Core) →
      ((chosen : Chosen) → core.running ≡ Some chosen → (chosen.thread < length core.threads) × ((thread_of core chosen.thread).place.item < length (thread_part system chosen.thread).script)) →
      IsQuietWith by_priority system c t mails core → GoesOnAfter system 0 core.running core
  quiet-goes t mails core known q = by core.running refl q
    where
      by : (o : Option Chosen) → core.running ≡ o → after_tick by_priority system c t mails (tick_of by_priority system c t o core) ≡ silent (counted_of system c o core) → GoesOnAfter system 0 o core
      by None e q = tt
      by (Some chosen) e' q =
          ends ((thread_of (counts chosen core) chosen.thread).place.left == 0)
          refl
          (chosen.using + 1 == head_amount (its_context system chosen.thread core)) refl q
        where
          over : (n : ℕ) → (left_after 1 n == 0) ≡ false → 1 < left_after 0 n
          over n h = grind (arith, nat_tests)

          other : (n m : ℕ) → (n + 1 == m) ≡ false → n + 0 + 1 ≢ m
          other n m h = grind (arith, nat_tests)

          within : slice_get (thread_part system chosen.thread).script (thread_of (counts chosen core) chosen.thread).place.item ≢ None
          within e = some-within (thread_part system chosen.thread).script _ (rw (counted-thread chosen core (known chosen e').0) (known chosen e').1) e

          ends : (a : Bool) → ((thread_of (counts chosen core) chosen.thread).place.left == 0) ≡ a → (b : Bool) → (chosen.using + 1 == head_amount (its_context system chosen.thread core)) ≡ b →
              after_tick by_priority system c t mails (cond a (finishes by_priority system c t chosen.thread (chosen.using + 1) (slice_get (thread_part system chosen.thread).script (thread_of (counts chosen core) chosen.thread).place.item) (counts chosen core))
              (cond b (stops_to_back by_priority system t chosen.thread why.Spent (chosen.using + 1) (counts chosen core)) (silent (counts chosen core)))) ≡ silent (counts chosen core) → GoesOnAfter system 0 (Some chosen) core
          ends false e false f q = (over (thread_of core chosen.thread).place.left (sym (ap (λ (thread : Thread). thread.place.left == 0) (counted-thread chosen core (known chosen e').0)) ∙ e), other _ _ f)
          ends false e true f q =
              let rows = (no-row by_priority system c t mails (stops_to_back by_priority system t chosen.thread why.Spent (chosen.using + 1) (counts chosen core)) (ap (λ (turn : Turn). turn.rows) q)).ticked in
              cc
          ends true e b f q =
              let item = slice_get (thread_part system chosen.thread).script (thread_of (counts chosen core) chosen.thread).place.item in
              let first = finishes by_priority system c t chosen.thread (chosen.using + 1) item (counts chosen core) in
              let rows = (no-row by_priority system c t mails first (ap (λ (turn : Turn). turn.rows) q)).ticked in
              let s = finishes-silent t chosen.thread (chosen.using + 1) item (counts chosen core) within rows in
              absurd (moved-busy t mails chosen.thread (counts chosen core) first (rw length-set (known chosen e').0) s.no_wait s.next s.placed q)

  -- and no other event comes in it
  pub quiet-calm : (t : ℕ) (mails : List Mail) (core : Core) → ((chosen : Chosen) → core.running ≡ Some chosen → chosen.thread < length core.threads) → GoesOnAfter system 0 core.running core →
      IsQuietWith by_priority system c t mails core → IsCalm t mails (counted system c core)
  quiet-calm t mails core k goes q =
      let P : Turn → Type 0 = λ turn. after_tick by_priority system c t mails turn ≡ silent (counted system c core) in
      let q' : after_tick by_priority system c t mails (silent (counted system c core)) ≡ silent (counted system c core) = subst P (tick-goes t core.running core k goes) q in
      calm-rows t mails (counted system c core) (ap (λ (turn : Turn). turn.rows) q')

module _ (system : System) (c : ℕ) where
  counted-first : (n : ℕ) (core : Core) → counted_times system c n (counted system c core) ≡ counted system c (counted_times system c n core)
  counted-first zero core = refl
  counted-first (suc n) core = ap (counted system c) (counted-first n core)

  pub counted-idle : (n : ℕ) (core : Core) → core.running ≡ None → counted_times system c n core ≡ core
  counted-idle zero core e = refl
  counted-idle (suc n) core e = ap (counted system c) (counted-idle n core e) ∙ ap (λ o. counted_of system c o core) e

  pub counted-by : (n : ℕ) (chosen : Chosen) (core : Core) → core.running ≡ Some chosen → chosen.thread < length core.threads → counted_times system c n core ≡ counted_by n chosen core
  counted-by zero chosen core e l =
      parts-same core core.running _ core.threads _ (e ∙ ap (λ u. Some (record { thread = chosen.thread; using = u })) more)
      (sym (ap (set core.threads chosen.thread) (ap (λ u. record (thread_of core chosen.thread) { place = record ((thread_of core chosen.thread).place) { left = u } }) less) ∙ set-get_or core.threads chosen.thread no_state))
    where
      more : chosen.using ≡ chosen.using + zero
      more = omega arith

      less : left_after zero (thread_of core chosen.thread).place.left ≡ (thread_of core chosen.thread).place.left
      less = left-none (thread_of core chosen.thread).place.left
  counted-by (suc n) chosen core e l =
      ap (counted system c) (counted-by n chosen core e l)
      ∙ parts-same core _ _ _ _ (ap (λ u. Some (record { thread = chosen.thread; using = u })) more)
      (ap (λ (state : Thread). set (set core.threads chosen.thread now) chosen.thread (record state { place = record (state.place) { left = left_after 1 state.place.left } })) (set-same chosen.thread now core.threads l)
      ∙ set-set core.threads chosen.thread _ _
      ∙ ap (λ u. set core.threads chosen.thread (record (thread_of core chosen.thread) { place = record ((thread_of core chosen.thread).place) { left = u } })) less)
    where
      now : Thread
      now = record (thread_of core chosen.thread) { place = record ((thread_of core chosen.thread).place) { left = left_after n (thread_of core chosen.thread).place.left } }

      more : chosen.using + n + 1 ≡ chosen.using + suc n
      more = omega arith

      less : left_after 1 (left_after n (thread_of core chosen.thread).place.left) ≡ left_after (suc n) (thread_of core chosen.thread).place.left
      less = left-more n (thread_of core chosen.thread).place.left

  -- many ticks counted at once
  pub counted-for : (n : ℕ) (core : Core) → ((chosen : Chosen) → core.running ≡ Some chosen → chosen.thread < length core.threads) → counted_times system c n core ≡ counted_for n core.running core
  counted-for n core l = by core.running refl
    where
      by : (o : Option Chosen) → core.running ≡ o → counted_times system c n core ≡ counted_for n o core
      by None e = counted-idle n core e
      by (Some chosen) e = counted-by n chosen core e (l chosen e)

  all-stay : (t : ℕ) (box : List Mail) → arriving t box ≡ [] → staying t box ≡ box
  all-stay t [] e = refl
  all-stay t (x ∷ xs) e = grind (arith, all-stay t xs)

-- however the ready threads are kept
module _ (queue : Discipline) (system : System) (c : ℕ) where
  -- one more turn before quiet ones
  quiet-later : (t n : ℕ) (core : Core) (box : List Mail) → AreQuietWith queue system c t box core (suc n) → AreQuietWith queue system c (t + 1) box (counted system c core) n
  quiet-later t n core box q = λ m l.
      let at = q (suc m) (omega arith) in
      let same : t + suc m ≡ t + 1 + m = omega arith in
      let P : ℕ → Type 0 = λ u. IsQuietWith queue system c u (arriving u box) (counted system c (counted_times system c m core)) in
      let Q : Core → Type 0 = λ k. IsQuietWith queue system c (t + 1 + m) (arriving (t + 1 + m) box) k in
      subst Q (sym (counted-first system c m core)) (subst P same at)

  pub quiet-ran : (n t : ℕ) (core : Core) (box : List Mail) → AreQuietWith queue system c t box core n →
      ran_with queue system c n t core box ≡ record { core = counted_times system c n core; rows = []; mails = []; box = box }
  quiet-ran zero t core box q = refl
  quiet-ran (suc n) t core box q =
      let now : IsQuietWith queue system c t (arriving t box) core = (let h = q 0 (omega arith) in let P : ℕ → Type 0 = λ u. IsQuietWith queue system c u (arriving u box) core in subst P (add-zero t) h) in
      let stay = all-stay system c t box (no_mail queue system c t (arriving t box) core now) in
      first (turn_with queue system c t (arriving t box) core) (staying t box) now stay (quiet-ran n (t + 1) (counted system c core) box (quiet-later t n core box q))
    where
      first : (made : Turn) (left : List Mail) → made ≡ silent (counted system c core) → left ≡ box →
          ran_with queue system c n (t + 1) (counted system c core) box ≡ record { core = counted_times system c n (counted system c core); rows = []; mails = []; box = box } →
          with_turn system c t made (ran_with queue system c n (t + 1) made.core left) ≡ record { core = counted_times system c (suc n) core; rows = []; mails = []; box = box }
      first made left e f g = rw (e, f, g, counted-first system c n core) refl
