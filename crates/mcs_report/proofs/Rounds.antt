-- A turn of a core on which a thread has no place tells no round of it.
use Rattle.std.proofs.Common.{◌≡◌, ℕ, ◌+◌, Bool, true, false, not, cond, ◌==◌, List, [], ◌∷◌, ◌++◌, Option, Some, None, refl, sym, ap, ◌∙◌, arith}
use Rattle.std.specs.Prelude.{filter}
use Rattle.std.proofs.lemmas.Bool.Decides.{nat_tests}
use Rattle.mcs_ticks.specs.Queue.{by_priority, first_of}
use Rattle.mcs_ticks.specs.declared.queue.Queued.{Queued}
use Rattle.mcs_ticks.specs.declared.row.What.{What}
use Rattle.mcs_ticks.specs.declared.row.What.TheVariants as row
use Rattle.mcs_control.specs.declared.config.Order.{Order}
use Rattle.mcs_notify.specs.Note.{quiet_note, posted, after_post}
use Rattle.mcs_notify.specs.declared.posted.Posted.{Posted}
use Rattle.mcs_notify.specs.declared.posted.Posted.TheVariants.{Woke, Held}
use Rattle.mcs_script.specs.declared.item.Item.{Item}
use Rattle.mcs_script.specs.declared.item.Item.TheVariants.{Compute, Signal, Wait, Yield, On, Spin, Enter, Leave}
use Rattle.mcs_script.specs.declared.moved.Moved.{Moved}
use Rattle.mcs_release.specs.Release.{is_due}
use Rattle.mcs_mail.specs.declared.mail.Mail.{Mail}
use Rattle.mcs_core.specs.Alarms.{ringing, alarms_at}
use Rattle.mcs_core.specs.declared.alarm.Alarm.{Alarm}
use Rattle.mcs_core.specs.declared.standing.AfterItem.{AfterItem}
use Rattle.mcs_core.specs.declared.standing.AfterItem.TheVariants as after
use Rattle.mcs_core.specs.declared.standing.Chosen.{Chosen}
use Rattle.mcs_system.specs.System.{System}
use Rattle.mcs_core.specs.Core.{Core, note_of, with_note}
use Rattle.mcs_core.specs.Turn as turns
use Rattle.mcs_core.specs.Turn.{Turn, each, ◌followed_by◌, is_for_now}
use Rattle.mcs_laws.specs.Places.{places}
use Rattle.mcs_laws.proofs.Places.{woke, set-waiting, arrives-held, interrupts-held, each-held, tick_of-held}
use Rattle.mcs_report.proofs.Walks.{is_open}
use Rattle.mcs_report.proofs.Schedules.{absent}

module _ (x : ℕ) where
  -- whether this says that a round of the thread ends
  abbrev pub ends_round : What → Bool
  ends_round (row.Round y number response) = y == x
  ends_round _ = false

  -- whether no row is of a round of the thread
  abbrev pub roundless : List What → Bool
  roundless [] = true
  roundless (what ∷ rows) = cond (ends_round what) false (roundless rows)

  roundless-append : (rows more : List What) → roundless (rows ++ more) ≡ cond (roundless rows) (roundless more) false
  roundless-append [] more = refl
  roundless-append (what ∷ rows) more = grind (arith, roundless-append rows more)

  each-roundless : {A : Type 0} (part : A → Core → Turn) → ((item : A) (k : Core) → roundless (part item k).rows ≡ true) → (items : List A) (k : Core)
      → roundless (each part items k).rows ≡ true
  each-roundless part h [] k = refl
  each-roundless part h (item ∷ items) k =
      let first = part item k in
      rw (roundless-append first.rows (each part items first.core).rows, h item k) (each-roundless part h items first.core)

  -- a thread that waits on no note is not woken
  another : (y word badge note : ℕ) (k : Core) → places x k ≡ 0 → posted badge (note_of k note) ≡ Woke y word → (y == x) ≡ false
  another y word badge note k none e =
      grind (arith, nat_tests, woke y word badge (note_of k note).word (note_of k note).waiters e, set-waiting x k.notes note quiet_note)

-- the parts of a turn
module _ (system : System) (t x : ℕ) where
  moves-roundless : (y : ℕ) (move : Moved) (k : Core) → (y == x) ≡ false → roundless x (turns.moves system t y move k).rows ≡ true
  moves-roundless y move k e = grind (arith, e)

  posts_as-roundless : (note badge : ℕ) (post : Posted) (k : Core) → places x k ≡ 0 → posted badge (note_of k note) ≡ post
      → roundless x (turns.posts_as by_priority system t note post k).rows ≡ true
  posts_as-roundless note badge (Woke y word) k none e =
      let woken = turns.given system t y word (turns.with_woken_context system t y (with_note note (after_post (Woke y word) (note_of k note)) k)) in
      roundless-append x (turns.moves_on system t y woken).rows []
      ∙ rw (moves-roundless y (turns.move_of system y woken) woken (another x y word badge note k none e)) refl
  posts_as-roundless note badge (Held word) k none e = refl

  frees_as-roundless : (server : ℕ) (post : Posted) (k : Core) → places x k ≡ 0 → posted 1 (note_of k server) ≡ post
      → roundless x (turns.frees_as by_priority system t server post k).rows ≡ true
  frees_as-roundless server (Woke y word) k none e =
      let woken = turns.with_woken_context system t y (with_note server (after_post (Woke y word) (note_of k server)) k) in
      roundless-append x (turns.moves_on system t y woken).rows []
      ∙ rw (moves-roundless y (turns.move_of system y woken) woken (another x y word 1 server k none e)) refl
  frees_as-roundless server (Held word) k none e = refl

  interrupts-roundless : (alarms : List Alarm) (k : Core) → places x k ≡ 0 → roundless x (each (turns.interrupts by_priority system t) alarms k).rows ≡ true
  interrupts-roundless [] k none = refl
  interrupts-roundless (alarm ∷ alarms) k none =
      let first = turns.interrupts by_priority system t alarm k in
      rw (roundless-append x first.rows (each (turns.interrupts by_priority system t) alarms first.core).rows, posts_as-roundless alarm.note alarm.badge (posted alarm.badge (note_of k alarm.note)) k none refl)
      (interrupts-roundless alarms first.core (omega (arith, interrupts-held system t x alarm k)))

  arrivals-roundless : (mails : List Mail) (k : Core) → places x k ≡ 0 → roundless x (each (turns.arrives by_priority system t) mails k).rows ≡ true
  arrivals-roundless [] k none = refl
  arrivals-roundless (mail ∷ mails) k none =
      let first = turns.arrives by_priority system t mail k in
      rw (roundless-append x first.rows (each (turns.arrives by_priority system t) mails first.core).rows, posts_as-roundless mail.note mail.badge (posted mail.badge (note_of k mail.note)) k none refl)
      (arrivals-roundless mails first.core (omega (arith, arrives-held system t x mail k)))

  obeys-roundless : (order : Order) (k : Core) → roundless x (turns.obeys by_priority system t order k).rows ≡ true
  obeys-roundless order k = grind arith

  preempts-roundless : (o : Option Chosen) (best : Option Queued) (k : Core) → roundless x (turns.preempts_by by_priority system t o best k).rows ≡ true
  preempts-roundless o best k = grind arith

  chooses-roundless : (o : Option Chosen) (best : Option Queued) (k : Core) → roundless x (turns.chooses_of by_priority system t o best k).rows ≡ true
  chooses-roundless o best k = grind arith

-- the end of the tick, and the whole turn
module _ (system : System) (c t x : ℕ) where
  may_stop-roundless : (y using : ℕ) (cause : AfterItem) (k : Core) → roundless x (turns.may_stop by_priority system t y using cause k).rows ≡ true
  may_stop-roundless y using cause k = grind arith

  signals-roundless : (y note badge : ℕ) (k : Core) → places x k ≡ 0 → roundless x (turns.signals by_priority system c t y note badge k).rows ≡ true
  signals-roundless y note badge k none = grind (arith, posts_as-roundless system t x note badge (posted badge (note_of k note)) k none refl)

  effect-roundless : (y : ℕ) (item : Option Item) (k : Core) → (y == x) ≡ false → places x k ≡ 0 → roundless x (turns.takes_effect by_priority system c t y item k).rows ≡ true
  effect-roundless y (Some (Signal note badge)) k e none =
      let first = turns.signals by_priority system c t y note badge k in
      rw (roundless-append x first.rows (turns.moves_on system t y first.core).rows, signals-roundless y note badge k none)
      (moves-roundless system t x y (turns.move_of system y first.core) first.core e)
  effect-roundless y (Some (Wait note)) k e none = grind (arith, e)
  effect-roundless y (Some (Compute ticks)) k e none = grind (arith, e)
  effect-roundless y (Some Yield) k e none = grind (arith, e)
  effect-roundless y (Some (On badges)) k e none = grind (arith, e)
  effect-roundless y (Some Spin) k e none = grind (arith, e)
  effect-roundless y (Some (Enter server priority)) k e none = grind (arith, e)
  effect-roundless y (Some (Leave server priority)) k e none =
      let first = turns.frees by_priority system t y server k in
      let freed : roundless x first.rows ≡ true = frees_as-roundless system t x server (posted 1 (note_of k server)) k none refl in
      rw (roundless-append x first.rows (turns.moves_on system t y first.core).rows, freed)
      (moves-roundless system t x y (turns.move_of system y first.core) first.core e)
  effect-roundless y None k e none = refl

  tick_of-roundless : (o : Option Chosen) (k : Core) → k.running ≡ o → places x k ≡ 0 → roundless x (turns.tick_of by_priority system c t o k).rows ≡ true
  tick_of-roundless None k e none = refl
  tick_of-roundless (Some chosen) k e none =
      let y = chosen.thread in
      let now = turns.counts chosen k in
      let item = turns.item_of system y now in
      let effect = turns.takes_effect by_priority system c t y item now in
      let counted : places x now ≡ places x k = rw e refl in
      grind (
        arith,
        roundless-append x effect.rows (turns.may_stop by_priority system t y (chosen.using + 1) (turns.after_item system y item now) effect.core).rows,
        effect-roundless y item now (sym (ap (is_open x) e) ∙ absent x k none) (counted ∙ none),
        may_stop-roundless y (chosen.using + 1) (turns.after_item system y item now) effect.core,
        may_stop-roundless y (chosen.using + 1) after.GoesOn now,
      )

  pub turn-roundless : (mails : List Mail) (k : Core) → places x k ≡ 0 → roundless x (turns.turn_with by_priority system c t mails k).rows ≡ true
  turn-roundless mails k none =
      let first = turns.tick by_priority system c t k in
      let rung = first followed_by each (turns.interrupts by_priority system t) (ringing t (alarms_at system c t)) in
      let second = rung followed_by each (turns.arrives by_priority system t) mails in
      let third = second followed_by each (turns.obeys by_priority system t) (filter (is_for_now system c t) system.orders) in
      let fourth = third followed_by turns.releases by_priority system t in
      let fifth = fourth followed_by turns.preempts by_priority system t in
      let left = record third.core { releases = filter (λ dated. not (is_due t dated)) third.core.releases } in
      let ticked = tick_of-held system c t x k.running k refl in
      simp (
        roundless-append x,
        tick_of-roundless k.running k refl none,
        interrupts-roundless system t x (ringing t (alarms_at system c t)) first.core (omega (arith, ticked)),
        arrivals-roundless system t x mails rung.core (omega (arith, ticked, each-held system t x (turns.interrupts by_priority system t) (interrupts-held system t x) (ringing t (alarms_at system c t)) first.core)),
        each-roundless x (turns.obeys by_priority system t) (obeys-roundless system t x) (filter (is_for_now system c t) system.orders) second.core,
        each-roundless x (turns.released by_priority) (λ due core. refl) (filter (is_due t) third.core.releases) left,
        preempts-roundless system t x fourth.core.running (first_of fourth.core.ready) fourth.core,
        chooses-roundless system t x fifth.core.running (first_of fifth.core.ready) fifth.core,
      )
