-- Rows name the core's own threads and notifications: at each moment no other thread has a place on
-- the core, and no part of a turn gives it one.
use Rattle.std.proofs.Common.{◌≡◌, ◌≢◌, ℕ, zero, suc, ◌+◌, ◌<◌, ◌≤◌, ◌⊎◌, inl, inr, Bool, true, false, cond, not, List, [], ◌∷◌, ◌++◌, map, length, get_or, refl, sym, ap, subst, ◌∙◌, Option, Some, None, arith}
use Rattle.std.specs.Prelude.{filter, ◌==◌, ◌&&◌, nat_lt, All, flat_map}
use Rattle.std.specs.List.{AllByRecursion, slice_get, range_with_len}
use Rattle.std.proofs.lemmas.Bool.{cases_lt}
use Rattle.std.proofs.lemmas.Bool.Decides.{nat_tests}
use Rattle.std.proofs.lemmas.List.Elements.{All-head, All-tail}
use Rattle.mcs_ticks.specs.Queue.{by_priority, in_one_list, first_of}
use Rattle.mcs_ticks.specs.declared.queue.Queued.{Queued}
use Rattle.mcs_ticks.specs.declared.row.What.{What}
use Rattle.mcs_ticks.specs.declared.row.Why.TheVariants as why
use Rattle.mcs_control.specs.declared.config.Order.{Order}
use Rattle.mcs_control.specs.Context.{head_amount}
use Rattle.mcs_notify.specs.Note.{quiet_note, posted, after_post, waited, after_wait}
use Rattle.mcs_notify.specs.declared.posted.Posted.{Posted}
use Rattle.mcs_notify.specs.declared.posted.Posted.TheVariants.{Woke, Held}
use Rattle.mcs_notify.specs.declared.posted.Waited.{Waited}
use Rattle.mcs_notify.specs.declared.posted.Waited.TheVariants.{Got, Blocks}
use Rattle.mcs_release.specs.declared.dated.Dated.{Dated}
use Rattle.mcs_release.specs.Release.{is_due}
use Rattle.mcs_script.specs.declared.item.Item.{Item}
use Rattle.mcs_script.specs.declared.item.Item.TheVariants.{Compute, Signal, Wait, Yield, On, Spin, Enter, Leave}
use Rattle.mcs_script.specs.declared.moved.Moved.{Moved}
use Rattle.mcs_script.specs.declared.moved.Moved.TheVariants.{Next, RoundEnds, AllDone}
use Rattle.mcs_mail.specs.declared.mail.Mail.{Mail}
use Rattle.mcs_system.specs.declared.part.Beat.{Beat}
use Rattle.mcs_system.specs.System.{System, no_thread, no_source, note_part, thread_part, source_part, core_of}
use Rattle.mcs_system.specs.WellFormed.{IsWellFormed, IsItem, IsBeat}
use Rattle.mcs_core.specs.Alarms.{alarm_of, is_at_home, rung, rings, ringing, past, alarms_at}
use Rattle.mcs_core.specs.declared.alarm.Alarm.{Alarm}
use Rattle.mcs_core.specs.Core.{Core, note_of, thread_of, with_note, opening_core}
use Rattle.mcs_core.specs.Places.{times_queued, times_dated}
use Rattle.mcs_core.specs.declared.standing.AfterItem.{AfterItem}
use Rattle.mcs_core.specs.declared.standing.AfterItem.TheVariants as after
use Rattle.mcs_core.specs.declared.standing.Chosen.{Chosen}
use Rattle.mcs_core.specs.Turn as turns
use Rattle.mcs_core.specs.Turn.{Turn, each}
use Rattle.mcs_core.specs.Clock as clocks
use Rattle.mcs_core.proofs.Clock.{turn_of-kept, core_shown-first, core_shown-kept}
use Rattle.mcs_core.proofs.Mails.{IsOutgoing, turn-out}
use Rattle.mcs_core.proofs.Known.{known-said}
use Rattle.mcs_laws.specs.Turns as laws
use Rattle.mcs_laws.proofs.UnderWay.{signals-of-turns}
use Rattle.mcs_laws.specs.Places.{times_running, places}
use Rattle.mcs_laws.proofs.Histories.{takes-time}
use Rattle.mcs_laws.proofs.Homes.{one_if, no_date}
use Rattle.mcs_laws.proofs.Places.{queued-cons, dated-cons, woke, set-waiting, interrupts-held, arrives-held, each-held, obeys-held, releases-held, preempts_by-held, tick_of-held, turn-held, quiet-waiting}
use Rattle.mcs_ever.specs.laws.Home.{IsOwnThread, IsOwnNote, IsOfOwn, RowsAreOfOwn}

-- each signal under way is for a notification that there is
module _ (system : System) where
  abbrev AreKnown : List Mail → Type 0
  AreKnown mails = AllByRecursion (λ (mail : Mail). mail.note < length system.notes) mails

  known-both : (xs ys : List Mail) → AreKnown xs → AreKnown ys → AreKnown (xs ++ ys)
  known-both [] ys p q = q
  known-both (mail ∷ xs) ys p q = (p.0, known-both xs ys p.1 q)

  known-all : (f : ℕ → List Mail) (n a : ℕ) → ((m : ℕ) → AreKnown (f m)) → AreKnown (flat_map f (range_with_len a n))
  known-all f zero a h = tt
  known-all f (suc n) a h = known-both (f a) (flat_map f (range_with_len (a + 1) n)) (h a) (known-all f n (a + 1) h)

  known-filter : (p : Mail → Bool) (mails : List Mail) → AreKnown mails → AreKnown (filter p mails)
  known-filter p [] h = tt
  known-filter p (mail ∷ mails) h = by (p mail) (known-filter p mails h.1)
    where
      by : (b : Bool) → AreKnown (filter p mails) → AreKnown (cond b (mail ∷ filter p mails) (filter p mails))
      by true i = (h.0, i)
      by false i = i

  module _ (well : IsWellFormed system) where
    outgoing-known : (c t : ℕ) (mails : List Mail) → IsOutgoing in_one_list system c t mails → AreKnown mails
    outgoing-known c t [] h = tt
    outgoing-known c t (mail ∷ []) h = (known-said system well mail.note mail.badge h.said, tt)
    outgoing-known c t (mail ∷ next ∷ mails) h = absurd h

    under_way-known : (t : ℕ) → AreKnown (clocks.world system t).mails
    under_way-known t =
        subst AreKnown (sym (signals-of-turns system (takes-time system well) t))
        (known-filter (λ mail. not (laws.was_taken system t mail)) (laws.sent_before system t)
        (known-all (laws.sent_at system) t 0 (λ m. known-all (λ c. (clocks.turn_of system c m).mails) system.cores 0
        (λ c. outgoing-known c m (clocks.turn_of system c m).mails (turn-out in_one_list system c m (filter (clocks.arrives_at system m c) (clocks.world system m).mails) (clocks.core_at system (clocks.world system m) c))))))

module _ (system : System) (c : ℕ) where
  abbrev Own : ℕ → Type 0
  Own x = IsOwnThread system c x

  abbrev AllOwn : List What → Type 0
  AllOwn rows = AllByRecursion (IsOfOwn system c) rows

  -- no other thread has a place
  abbrev NoOther : Core → Type 0
  NoOther k = (y : ℕ) → (Own y → ⊥) → places y k ≡ 0

  own_or : (x : ℕ) → Own x ⊎ (Own x → ⊥)
  own_or x = by (cases_lt x (length system.threads))
    where
      same : (a b : ℕ) → (a == b) ≡ true → a ≡ b
      same a b e = grind (arith, nat_tests)

      differ : (a b : ℕ) → (a == b) ≡ false → a ≢ b
      differ a b e = grind (arith, nat_tests)

      home : x < length system.threads → (b : Bool) → (core_of system (thread_part system x) == c) ≡ b → Own x ⊎ (Own x → ⊥)
      home l true e = inl (record { known = l; home = same (core_of system (thread_part system x)) c e })
      home l false e = inr (λ own. differ (core_of system (thread_part system x)) c e own.home)

      never : (n m : ℕ) → n ≤ m → m < n → ⊥
      never n m l k = omega (arith, l, k)

      by : (x < length system.threads) ⊎ (length system.threads ≤ x) → Own x ⊎ (Own x → ⊥)
      by (inl within) = home within (core_of system (thread_part system x) == c) refl
      by (inr past) = inr (λ own. never (length system.threads) x past own.known)

  with_place : (k : Core) → NoOther k → (x : ℕ) → 1 ≤ places x k → Own x
  with_place k s x l = by (own_or x)
    where
      by : Own x ⊎ (Own x → ⊥) → Own x
      by (inl own) = own
      by (inr away) = absurd (omega (arith, l, s x away))

  kept : (k l : Core) → ((y : ℕ) → places y l ≤ places y k) → NoOther k → NoOther l
  kept k l h s y away = omega (arith, h y, s y away)

  all_append : (xs ys : List What) → AllOwn xs → AllOwn ys → AllOwn (xs ++ ys)
  all_append [] ys p q = q
  all_append (x ∷ xs) ys p q = (p.0, all_append xs ys p.1 q)

  all_test : (b : Bool) (u v : Turn) → AllOwn u.rows → AllOwn v.rows → AllOwn (cond b u v).rows
  all_test true u v p q = p
  all_test false u v p q = q

  one_self : (x : ℕ) → one_if (x == x) ≡ 1
  one_self x = grind (arith, nat_tests)

  -- who runs is one of the core's
  runs-own : (k : Core) → NoOther k → (chosen : Chosen) → k.running ≡ Some chosen → Own chosen.thread
  runs-own k s chosen e =
      let f : times_running chosen.thread k.running ≡ times_running chosen.thread (Some chosen) = ap (times_running chosen.thread) e in
      with_place k s chosen.thread (omega (arith, f, one_self chosen.thread))

  -- and so is who waits
  waits-own : (k : Core) → NoOther k → (note x : ℕ) → 1 ≤ times_queued x (note_of k note).waiters → Own x
  waits-own k s note x l = with_place k s x (omega (arith, l, set-waiting x k.notes note quiet_note))

  module _ (t : ℕ) where
    moves-own : (x : ℕ) (m : Moved) (k : Core) → Own x → AllOwn (turns.moves system t x m k).rows
    moves-own x Next k own = tt
    moves-own x RoundEnds k own = (own, tt)
    moves-own x AllDone k own = (own, tt)

    posts_as-own : (note badge : ℕ) (p : Posted) (k : Core) → posted badge (note_of k note) ≡ p → NoOther k → IsOwnNote system c note → AllOwn (turns.posts_as by_priority system t note p k).rows
    posts_as-own note badge (Woke x word) k e s home =
        ((own, home), all_append (turns.moves_on system t x begun).rows [] (moves-own x (turns.move_of system x begun) begun own) tt)
      where
        begun : Core
        begun = turns.given system t x word (turns.with_woken_context system t x (with_note note (after_post (Woke x word) (note_of k note)) k))

        own : Own x
        own = waits-own k s note x (woke x word badge (note_of k note).word (note_of k note).waiters e)
    posts_as-own note badge (Held word) k e s home = (home, tt)

    posts-own : (note badge : ℕ) (k : Core) → NoOther k → IsOwnNote system c note → AllOwn (turns.posts by_priority system t note badge k).rows
    posts-own note badge k s home = posts_as-own note badge (posted badge (note_of k note)) k refl s home

    -- a server that is left
    frees-own : (x server : ℕ) (k : Core) → Own x → NoOther k → IsOwnNote system c server → AllOwn (turns.frees by_priority system t x server k).rows
    frees-own x server k own s home = (own, by (posted 1 (note_of k server)) refl)
      where
        by : (p : Posted) → posted 1 (note_of k server) ≡ p → AllOwn (turns.frees_as by_priority system t server p k).rows
        by (Woke y word) e =
            let woken = turns.with_woken_context system t y (with_note server (after_post (Woke y word) (note_of k server)) k) in
            let waiter : Own y = waits-own k s server y (woke y word 1 (note_of k server).word (note_of k server).waiters e) in
            ((waiter, home), all_append (turns.moves_on system t y woken).rows [] (moves-own y (turns.move_of system y woken) woken waiter) tt)
        by (Held word) e = tt

    -- interrupts, each for a notification of the core
    abbrev AreOwn : List Alarm → Type 0
    AreOwn alarms = AllByRecursion (λ (alarm : Alarm). IsOwnNote system c alarm.note) alarms

    interrupts-own : (alarms : List Alarm) (k : Core) → AreOwn alarms → NoOther k → AllOwn (each (turns.interrupts by_priority system t) alarms k).rows
    interrupts-own [] k h s = tt
    interrupts-own (alarm ∷ alarms) k h s = (
      h.0,
      all_append (turns.posts by_priority system t alarm.note alarm.badge k).rows (each (turns.interrupts by_priority system t) alarms (turns.interrupts by_priority system t alarm k).core).rows
          (posts-own alarm.note alarm.badge k s h.0)
          (interrupts-own alarms (turns.interrupts by_priority system t alarm k).core h.1 (kept k (turns.interrupts by_priority system t alarm k).core (λ y. interrupts-held system t y alarm k) s)),
    )

    -- arrivals, each for a notification of the core
    arrivals-own : (mails : List Mail) (k : Core) → AllByRecursion (λ (mail : Mail). IsOwnNote system c mail.note) mails → NoOther k → AllOwn (each (turns.arrives by_priority system t) mails k).rows
    arrivals-own [] k h s = tt
    arrivals-own (mail ∷ mails) k h s = (
      h.0,
      all_append (turns.posts by_priority system t mail.note mail.badge k).rows (each (turns.arrives by_priority system t) mails (turns.arrives by_priority system t mail k).core).rows
          (posts-own mail.note mail.badge k s h.0)
          (arrivals-own mails (turns.arrives by_priority system t mail k).core h.1 (kept k (turns.arrives by_priority system t mail k).core (λ y. arrives-held system t y mail k) s)),
    )

    -- orders
    orders_running-own : (order : Order) (o : Option Chosen) (k : Core) → k.running ≡ o → NoOther k → AllOwn (turns.orders_running by_priority system t order o k).rows
    orders_running-own order None k e s = tt
    orders_running-own order (Some chosen) k e s =
        all_test ((turns.part_of system chosen.thread).context == order.context)
        (turns.stops_to_front by_priority system t chosen.thread why.Order chosen.using (turns.applied t order (turns.charged system chosen.thread chosen.using k)))
        (turns.silent (turns.applied t order k)) (runs-own k s chosen e, tt) tt

    orders-own : (orders : List Order) (k : Core) → NoOther k → AllOwn (each (turns.obeys by_priority system t) orders k).rows
    orders-own [] k s = tt
    orders-own (order ∷ orders) k s = (
      tt,
      all_append (turns.orders_running by_priority system t order k.running k).rows (each (turns.obeys by_priority system t) orders (turns.obeys by_priority system t order k).core).rows
          (orders_running-own order k.running k refl s)
          (orders-own orders (turns.obeys by_priority system t order k).core (kept k (turns.obeys by_priority system t order k).core (λ y. obeys-held system t y order k) s)),
    )

    -- releases
    abbrev NoOtherDate : List Dated → Type 0
    NoOtherDate dated = (y : ℕ) → (Own y → ⊥) → times_dated y dated ≡ 0

    released-own : (dated : List Dated) (k : Core) → NoOtherDate dated → AllOwn (each (turns.released by_priority) dated k).rows
    released-own [] k s = tt
    released-own (due ∷ dated) k s =
        (by (own_or due.thread), released-own dated (turns.released by_priority due k).core (λ y away. omega (arith, s y away, dated-cons y due dated)))
      where
        by : Own due.thread ⊎ (Own due.thread → ⊥) → Own due.thread
        by (inl own) = own
        by (inr away) = absurd (omega (arith, s due.thread away, dated-cons due.thread due dated, one_self due.thread))

    filtered : (y : ℕ) (p : Dated → Bool) (dated : List Dated) → times_dated y (filter p dated) ≤ times_dated y dated
    filtered y p [] = omega arith
    filtered y p (due ∷ dated) = by (p due) (filtered y p dated)
      where
        by : (b : Bool) → times_dated y (filter p dated) ≤ times_dated y dated → times_dated y (cond b (due ∷ filter p dated) (filter p dated)) ≤ times_dated y (due ∷ dated)
        by true l = omega (arith, l, dated-cons y due dated, dated-cons y due (filter p dated))
        by false l = omega (arith, l, dated-cons y due dated)

    releases-own : (k : Core) → NoOther k → AllOwn (turns.releases by_priority system t k).rows
    releases-own k s =
        released-own (filter (is_due t) k.releases) (record k { releases = filter (λ dated. not (is_due t dated)) k.releases })
        (λ y away. omega (arith, filtered y (is_due t) k.releases, s y away))

    -- the choice
    preempts_by-own : (o : Option Chosen) (best : Option Queued) (k : Core) → k.running ≡ o → NoOther k → AllOwn (turns.preempts_by by_priority system t o best k).rows
    preempts_by-own (Some chosen) (Some best) k e s =
        all_test (nat_lt (thread_of k chosen.thread).place.priority best.priority)
        (turns.stops_to_front by_priority system t chosen.thread why.Preempt chosen.using (turns.charged system chosen.thread chosen.using k)) (turns.silent k) (runs-own k s chosen e, tt) tt
    preempts_by-own (Some chosen) None k e s = tt
    preempts_by-own None best k e s = tt

    chooses_of-own : (o : Option Chosen) (ready : List Queued) (k : Core) → k.ready ≡ ready → NoOther k → AllOwn (turns.chooses_of by_priority system t o (first_of ready) k).rows
    chooses_of-own (Some chosen) ready k e s = tt
    chooses_of-own None [] k e s = tt
    chooses_of-own None (best ∷ others) k e s = (with_place k s best.thread queued, tt)
      where
        queued : 1 ≤ places best.thread k
        queued = let f : times_queued best.thread k.ready ≡ times_queued best.thread (best ∷ others) = ap (times_queued best.thread) e in
            omega (arith, f, queued-cons best.thread best others, one_self best.thread)

    -- the end of the tick
    waits_as-own : (x note : ℕ) (w : Waited) (k : Core) → Own x → IsOwnNote system c note → AllOwn (turns.waits_as system t x note w k).rows
    waits_as-own x note (Got word) k own home = ((own, home), moves-own x (turns.move_of system x begun) begun own)
      where
        begun : Core
        begun = turns.given system t x word (with_note note (after_wait (Got word) (turns.queued x k) (note_of k note)) k)
    waits_as-own x note Blocks k own home = tt

    enters_as-own : (x server : ℕ) (w : Waited) (k : Core) → Own x → IsOwnNote system c server → AllOwn (turns.enters_as system t x server w k).rows
    enters_as-own x server (Got word) k own home =
        let taken = with_note server (after_wait (Got word) (turns.queued x k) (note_of k server)) k in
        ((own, home), moves-own x (turns.move_of system x taken) taken own)
    enters_as-own x server Blocks k own home = tt

    may_stop-own : (x using : ℕ) (cause : AfterItem) (k : Core) → Own x → AllOwn (turns.may_stop by_priority system t x using cause k).rows
    may_stop-own x using after.Ends k own = (own, tt)
    may_stop-own x using after.Blocks k own = (own, tt)
    may_stop-own x using after.Calls k own = (own, tt)
    may_stop-own x using after.Yields k own = (own, tt)
    may_stop-own x using after.GoesOn k own =
        all_test (using == head_amount (turns.its_context system x k)) (turns.stops_to_back by_priority system t x why.Spent using k) (turns.silent k) (own, tt) tt

    signals-own : (x note badge : ℕ) (k : Core) → Own x → note < length system.notes → NoOther k → AllOwn (turns.signals by_priority system c t x note badge k).rows
    signals-own x note badge k own there s =
        (own, by ((note_part system note).core == c) refl)
      where
        same : (a b : ℕ) → (a == b) ≡ true → a ≡ b
        same a b e = grind (arith, nat_tests)

        by : (b : Bool) → ((note_part system note).core == c) ≡ b →
            AllOwn (cond b (turns.posts by_priority system t note badge k) (record { core = k; rows = []; mails = turns.mail_to system c t note badge ∷ [] })).rows
        by true e = posts-own note badge k s (record { known = there; home = same (note_part system note).core c e })
        by false e = tt

    module _ (well : IsWellFormed system) where
      item-at : (core : ℕ) (items : List Item) (i : ℕ) (item : Item) → All (IsItem system core) items → slice_get items i ≡ Some item → IsItem system core item
      item-at core [] i item h e = cc
      item-at core (first ∷ items) zero item h e = let same : first ≡ item = cc in subst (IsItem system core) same (All-head (IsItem system core) first items h)
      item-at core (first ∷ items) (suc i) item h e = item-at core items i item (All-tail (IsItem system core) first items h) e

      -- the item of a thread of the core
      own-item : (x : ℕ) (item : Item) (k : Core) → turns.item_of system x k ≡ Some item → Own x → IsItem system (core_of system (thread_part system x)) item
      own-item x item k e own =
          item-at (core_of system (thread_part system x)) (thread_part system x).script (thread_of k x).place.item item (well.threads x no_thread own.known).items e

      takes_effect-own : (x : ℕ) (item : Option Item) (k : Core) → turns.item_of system x k ≡ item → Own x → NoOther k → AllOwn (turns.takes_effect by_priority system c t x item k).rows
      takes_effect-own x (Some (Signal note badge)) k e own s =
          all_append (turns.signals by_priority system c t x note badge k).rows (turns.moves_on system t x (turns.signals by_priority system c t x note badge k).core).rows
          (signals-own x note badge k own (own-item x (Signal note badge) k e own).0 s)
          (moves-own x (turns.move_of system x (turns.signals by_priority system c t x note badge k).core) (turns.signals by_priority system c t x note badge k).core own)
      takes_effect-own x (Some (Wait note)) k e own s =
          let item = own-item x (Wait note) k e own in
          waits_as-own x note (waited (note_of k note)) k own (record { known = item.0; home = item.1 ∙ own.home })
      takes_effect-own x (Some (Compute ticks)) k e own s = moves-own x (turns.move_of system x k) k own
      takes_effect-own x (Some Yield) k e own s = moves-own x (turns.move_of system x k) k own
      takes_effect-own x (Some (On badges)) k e own s = moves-own x (turns.move_of system x k) k own
      takes_effect-own x (Some Spin) k e own s = moves-own x (turns.move_of system x k) k own
      takes_effect-own x (Some (Enter server priority)) k e own s =
          let item = own-item x (Enter server priority) k e own in
          enters_as-own x server (waited (note_of k server)) k own (record { known = item.0; home = item.1 ∙ own.home })
      takes_effect-own x (Some (Leave server priority)) k e own s =
          let item = own-item x (Leave server priority) k e own in
          let first = turns.frees by_priority system t x server k in
          all_append first.rows (turns.moves_on system t x first.core).rows (frees-own x server k own s (record { known = item.0; home = item.1 ∙ own.home }))
          (moves-own x (turns.move_of system x first.core) first.core own)
      takes_effect-own x None k e own s = tt

      finishes-own : (x using : ℕ) (item : Option Item) (k : Core) → turns.item_of system x k ≡ item → Own x → NoOther k → AllOwn (turns.finishes by_priority system c t x using item k).rows
      finishes-own x using item k e own s =
          all_append (turns.takes_effect by_priority system c t x item k).rows
          (turns.may_stop by_priority system t x using (turns.after_item system x item k) (turns.takes_effect by_priority system c t x item k).core).rows
          (takes_effect-own x item k e own s) (may_stop-own x using (turns.after_item system x item k) (turns.takes_effect by_priority system c t x item k).core own)

      after_count-own : (x using : ℕ) (k : Core) → Own x → NoOther k → AllOwn (turns.after_count by_priority system c t x using k).rows
      after_count-own x using k own s =
          all_test ((thread_of k x).place.left == 0) (turns.finishes by_priority system c t x using (turns.item_of system x k) k) (turns.may_stop by_priority system t x using after.GoesOn k)
          (finishes-own x using (turns.item_of system x k) k refl own s) (may_stop-own x using after.GoesOn k own)

      tick_of-own : (o : Option Chosen) (k : Core) → k.running ≡ o → NoOther k → AllOwn (turns.tick_of by_priority system c t o k).rows
      tick_of-own None k e s = tt
      tick_of-own (Some chosen) k e s =
          after_count-own chosen.thread (chosen.using + 1) (turns.counts chosen k) (runs-own k s chosen e) (kept k (turns.counts chosen k) counted s)
        where
          counted : (y : ℕ) → places y (turns.counts chosen k) ≤ places y k
          counted y =
              let f : times_running y k.running ≡ times_running y (Some chosen) = ap (times_running y) e in
              omega (arith, f)

      -- what rings is for the core's notifications
      same_core : (a b : ℕ) → (a == b) ≡ true → a ≡ b
      same_core a b e = grind (arith, nat_tests)

      own-first : (beats : List Beat) → All (IsBeat system) beats → AreOwn (map (alarm_of system) (filter (is_at_home system c) beats))
      own-first [] h = tt
      own-first (beat ∷ beats) h = by (is_at_home system c beat) refl (own-first beats (All-tail (IsBeat system) beat beats h))
        where
          by : (b : Bool) → is_at_home system c beat ≡ b → AreOwn (map (alarm_of system) (filter (is_at_home system c) beats)) →
              AreOwn (map (alarm_of system) (cond b (beat ∷ filter (is_at_home system c) beats) (filter (is_at_home system c) beats)))
          by true e i =
              let source = well.sources.sources beat.source no_source (All-head (IsBeat system) beat beats h).source in
              (record { known = source.note; home = same_core (note_part system (source_part system beat.source).note).core c e }, i)
          by false e i = i

      own-past : (m : ℕ) (alarms : List Alarm) → AreOwn alarms → AreOwn (past m alarms)
      own-past m [] h = tt
      own-past m (alarm ∷ alarms) h = (by (rings m alarm), own-past m alarms h.1)
        where
          by : (b : Bool) → IsOwnNote system c (cond b (rung alarm) alarm).note
          by true = h.0
          by false = h.0

      own-alarms : (m : ℕ) → AreOwn (alarms_at system c m)
      own-alarms zero = own-first system.beats well.sources.beats
      own-alarms (suc m) = own-past m (alarms_at system c m) (own-alarms m)

      own-ringing : (m : ℕ) (alarms : List Alarm) → AreOwn alarms → AreOwn (ringing m alarms)
      own-ringing m [] h = tt
      own-ringing m (alarm ∷ alarms) h = by (rings m alarm) (own-ringing m alarms h.1)
        where
          by : (b : Bool) → AreOwn (ringing m alarms) → AreOwn (cond b (alarm ∷ ringing m alarms) (ringing m alarms))
          by true i = (h.0, i)
          by false i = i

      -- a whole turn
      pub turn-own : (mails : List Mail) (k : Core) → AllByRecursion (λ (mail : Mail). IsOwnNote system c mail.note) mails → NoOther k → AllOwn (turns.turn_with by_priority system c t mails k).rows
      turn-own mails k h s =
          all_append (((((ticked.rows ++ rang.rows) ++ arrived.rows) ++ obeyed.rows) ++ freed.rows) ++ yielded.rows) (turns.chooses by_priority system t yielded.core).rows
          (all_append ((((ticked.rows ++ rang.rows) ++ arrived.rows) ++ obeyed.rows) ++ freed.rows) yielded.rows
          (all_append (((ticked.rows ++ rang.rows) ++ arrived.rows) ++ obeyed.rows) freed.rows
          (all_append ((ticked.rows ++ rang.rows) ++ arrived.rows) obeyed.rows
          (all_append (ticked.rows ++ rang.rows) arrived.rows
          (all_append ticked.rows rang.rows (tick_of-own k.running k refl s) (interrupts-own (ringing t (alarms_at system c t)) ticked.core (own-ringing t (alarms_at system c t) (own-alarms t)) first))
          (arrivals-own mails rang.core h interrupted))
          (orders-own (filter (turns.is_for_now system c t) system.orders) arrived.core second))
          (releases-own obeyed.core third))
          (preempts_by-own freed.core.running (first_of freed.core.ready) freed.core refl fourth))
          (chooses_of-own yielded.core.running yielded.core.ready yielded.core refl fifth)
        where
          ticked : Turn
          ticked = turns.tick by_priority system c t k

          rang : Turn
          rang = each (turns.interrupts by_priority system t) (ringing t (alarms_at system c t)) ticked.core

          arrived : Turn
          arrived = each (turns.arrives by_priority system t) mails rang.core

          obeyed : Turn
          obeyed = each (turns.obeys by_priority system t) (filter (turns.is_for_now system c t) system.orders) arrived.core

          freed : Turn
          freed = turns.releases by_priority system t obeyed.core

          yielded : Turn
          yielded = turns.preempts by_priority system t freed.core

          first : NoOther ticked.core
          first = kept k ticked.core (λ y. tick_of-held system c t y k.running k refl) s

          interrupted : NoOther rang.core
          interrupted = kept ticked.core rang.core (λ y. each-held system t y (turns.interrupts by_priority system t) (interrupts-held system t y) (ringing t (alarms_at system c t)) ticked.core) first

          second : NoOther arrived.core
          second = kept rang.core arrived.core (λ y. each-held system t y (turns.arrives by_priority system t) (arrives-held system t y) mails rang.core) interrupted

          third : NoOther obeyed.core
          third = kept arrived.core obeyed.core (λ y. each-held system t y (turns.obeys by_priority system t) (obeys-held system t y) (filter (turns.is_for_now system c t) system.orders) arrived.core) second

          fourth : NoOther freed.core
          fourth = kept obeyed.core freed.core (λ y. releases-held system t y obeyed.core) third

          fifth : NoOther yielded.core
          fifth = kept freed.core yielded.core (λ y. preempts_by-held system t y freed.core.running (first_of freed.core.ready) freed.core refl) fourth

  -- at first, and so at each moment, no other thread has a place
  opening-none : NoOther (opening_core system c)
  opening-none y away = omega (arith, no_date system c y 0 system.threads elsewhere, quiet-waiting y system.notes)
    where
      elsewhere : (i : ℕ) → i < length system.threads → core_of system (get_or system.threads i no_thread) ≡ c → 0 + i ≢ y
      elsewhere i l e q =
          let same : i ≡ y = omega (arith, q) in
          let P : ℕ → Type 0 = λ x. Own x in away (subst P same (record { known = l; home = e }))

  none-other : IsWellFormed system → c < system.cores → (t : ℕ) → NoOther (clocks.core_shown system (clocks.world system t) c)
  none-other well known zero y away = ap (places y) (core_shown-first system c known) ∙ opening-none y away
  none-other well known (suc t) y away =
      ap (places y) (core_shown-kept system (takes-time system well) t c known)
      ∙ still_none _ _ (turn-held system c t y (filter (clocks.arrives_at system t c) (clocks.world system t).mails) (clocks.core_shown system (clocks.world system t) c)) (none-other well known t y away)
    where
      still_none : (a b : ℕ) → a ≤ b → b ≡ 0 → a ≡ 0
      still_none a b p q = omega (arith, p, q)

  -- what arrives on a core is for its notifications
  arriving-own : (t : ℕ) (mails : List Mail) → AreKnown system mails → AllByRecursion (λ (mail : Mail). IsOwnNote system c mail.note) (filter (clocks.arrives_at system t c) mails)
  arriving-own t [] h = tt
  arriving-own t (mail ∷ mails) h = by (mail.arrives == t) ((note_part system mail.note).core == c) refl (arriving-own t mails h.1)
    where
      same : (a b : ℕ) → (a == b) ≡ true → a ≡ b
      same a b e = grind (arith, nat_tests)

      by : (now : Bool) (home : Bool) → ((note_part system mail.note).core == c) ≡ home → AllByRecursion (λ (mail : Mail). IsOwnNote system c mail.note) (filter (clocks.arrives_at system t c) mails) →
          AllByRecursion (λ (mail : Mail). IsOwnNote system c mail.note) (cond (now && home) (mail ∷ filter (clocks.arrives_at system t c) mails) (filter (clocks.arrives_at system t c) mails))
      by true true e i = (record { known = h.0; home = same (note_part system mail.note).core c e }, i)
      by true false e i = i
      by false home e i = i

-- a server that the running thread of a core may leave is at home there
pub leaves-at-home : (system : System) → IsWellFormed system → (c t : ℕ) → c < system.cores → (chosen : Chosen) →
    (clocks.core_shown system (clocks.world system t) c).running ≡ Some chosen → (i server priority : ℕ) →
    slice_get (thread_part system chosen.thread).script i ≡ Some (Leave server priority) → (note_part system server).core ≡ c
leaves-at-home system well c t known chosen runs i server priority e =
    let own = runs-own system c (clocks.core_shown system (clocks.world system t) c) (none-other system c well known t) chosen runs in
    let item =
    item-at system c t well (core_of system (thread_part system chosen.thread)) (thread_part system chosen.thread).script i (Leave server priority)
    (well.threads chosen.thread no_thread own.known).items e
    in
    item.1 ∙ own.home

pub rows-of-own : RowsAreOfOwn
rows-of-own system well c t known =
    let P : List What → Type 0 = λ rows. AllByRecursion (IsOfOwn system c) rows in
    subst P (sym (ap (λ (made : Turn). made.rows) (turn_of-kept system c t)))
    (turn-own system c t well (filter (clocks.arrives_at system t c) (clocks.world system t).mails) (clocks.core_shown system (clocks.world system t) c)
    (arriving-own system c t (clocks.world system t).mails (under_way-known system well t)) (none-other system c well known t))
