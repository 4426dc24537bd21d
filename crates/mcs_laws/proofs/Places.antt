-- No part of a turn gives a thread a place more than it had.
use Rattle.std.proofs.Common.{◌≡◌, ℕ, zero, suc, ◌+◌, ◌<◌, ◌≤◌, Bool, true, false, not, cond, List, [], ◌∷◌, ◌++◌, length, map, set, get_or, Option, Some, None, refl, ap, ◌∙◌, arith}
use Rattle.std.specs.Prelude.{filter, ◌==◌, nat_lt}
use Rattle.std.proofs.lemmas.Bool.Decides.{nat_tests}
use Rattle.mcs_ticks.specs.Queue.{by_priority, first_among, without, entered_back, entered_front, first_of, sorted}
use Rattle.mcs_ticks.specs.declared.queue.Queued.{Queued}
use Rattle.mcs_notify.specs.Note.{Note, quiet_note, posted, after_post, waited, after_wait}
use Rattle.mcs_notify.specs.declared.posted.Posted.{Posted}
use Rattle.mcs_notify.specs.declared.posted.Posted.TheVariants.{Woke, Held}
use Rattle.mcs_release.specs.declared.dated.Dated.{Dated}
use Rattle.mcs_core.specs.Alarms.{ringing, alarms_at}
use Rattle.mcs_core.specs.declared.alarm.Alarm.{Alarm}
use Rattle.mcs_core.specs.declared.standing.AfterItem.{AfterItem}
use Rattle.mcs_core.specs.declared.standing.AfterItem.TheVariants as after
use Rattle.mcs_core.specs.declared.standing.Chosen.{Chosen}
use Rattle.mcs_core.specs.declared.standing.Standing.{Standing}
use Rattle.mcs_core.specs.declared.standing.Standing.TheVariants.{Blocked, Done}
use Rattle.mcs_ticks.specs.declared.row.Why.{Why}
use Rattle.mcs_ticks.specs.declared.row.Why.TheVariants as why
use Rattle.mcs_control.specs.declared.config.Order.{Order}
use Rattle.mcs_control.specs.Context.{head_amount}
use Rattle.mcs_notify.specs.declared.posted.Waited.{Waited}
use Rattle.mcs_notify.specs.declared.posted.Waited.TheVariants.{Got, Blocks}
use Rattle.mcs_script.specs.declared.item.Item.{Item}
use Rattle.mcs_script.specs.declared.item.Item.TheVariants.{Compute, Signal, Wait, Yield, On, Spin, Enter, Leave}
use Rattle.mcs_script.specs.declared.moved.Moved.{Moved}
use Rattle.mcs_script.specs.declared.moved.Moved.TheVariants.{Next, RoundEnds, AllDone}
use Rattle.mcs_mail.specs.declared.mail.Mail.{Mail}
use Rattle.mcs_system.specs.System.{System, TakesTime, note_part, core_of}
use Rattle.mcs_system.specs.declared.part.ThreadPart.{ThreadPart}
use Rattle.mcs_system.specs.declared.part.NotePart.{NotePart}
use Rattle.mcs_core.specs.Core.{opening_note, Core, note_of, thread_of, with_note, off, opening_core, opening_releases}
use Rattle.mcs_release.specs.Release.{is_due}
use Rattle.mcs_core.specs.Turn as turns
use Rattle.mcs_core.specs.Turn.{Turn, each, silent, says, ◌followed_by◌, is_for_now}
use Rattle.mcs_core.specs.Clock as clocks
use Rattle.mcs_core.proofs.Clock.{core_shown-first, core_shown-kept}
use Rattle.mcs_laws.specs.Places.{times_running, places, ThreadsHaveOnePlace}
use Rattle.mcs_core.specs.Places.{times_queued, times_dated, times_waiting}
use Rattle.mcs_core.proofs.Counts.{times_queued-append, times_dated-append, times_waiting-set}

-- queues
module _ (y : ℕ) where
  abbrev pub one : ℕ → ℕ
  one x = cond (x == y) 1 0

  pub queued-cons : (x : Queued) (xs : List Queued) → times_queued y (x ∷ xs) ≡ one x.thread + times_queued y xs
  queued-cons x xs = refl

  queued-push : (xs : List Queued) (x : Queued) → times_queued y (xs ++ x ∷ []) ≡ times_queued y xs + one x.thread
  queued-push xs x = omega (arith, times_queued-append y xs x)

  pub dated-cons : (x : Dated) (xs : List Dated) → times_dated y (x ∷ xs) ≡ one x.thread + times_dated y xs
  dated-cons x xs = refl

  dated-push : (xs : List Dated) (x : Dated) → times_dated y (xs ++ x ∷ []) ≡ times_dated y xs + one x.thread
  dated-push xs x = omega (arith, times_dated-append y xs x)

  pub back-queued : (x : Queued) (xs : List Queued) → times_queued y (entered_back x xs) ≡ times_queued y xs + one x.thread
  back-queued x [] = queued-push [] x
  back-queued x (z ∷ zs) = by (nat_lt z.priority x.priority) (back-queued x zs)
    where
      by : (b : Bool) → times_queued y (entered_back x zs) ≡ times_queued y zs + one x.thread →
          times_queued y (cond b (x ∷ z ∷ zs) (z ∷ entered_back x zs)) ≡ times_queued y (z ∷ zs) + one x.thread
      by true i = omega (arith, queued-cons x (z ∷ zs))
      by false i = omega (arith, i, queued-cons z (entered_back x zs), queued-cons z zs)

  pub front-queued : (x : Queued) (xs : List Queued) → times_queued y (entered_front x xs) ≡ times_queued y xs + one x.thread
  front-queued x [] = queued-push [] x
  front-queued x (z ∷ zs) = by (nat_lt x.priority z.priority) (front-queued x zs)
    where
      by : (b : Bool) → times_queued y (entered_front x zs) ≡ times_queued y zs + one x.thread →
          times_queued y (cond b (z ∷ entered_front x zs) (x ∷ z ∷ zs)) ≡ times_queued y (z ∷ zs) + one x.thread
      by true i = omega (arith, i, queued-cons z (entered_front x zs), queued-cons z zs)
      by false i = omega (arith, queued-cons x (z ∷ zs))

-- the first of greatest priority is in the list
among-in : (z : ℕ) (best : Queued) (xs : List Queued) → (first_among best xs).thread ≡ z → 1 ≤ times_queued z (best ∷ xs)
among-in z best [] e = rw (queued-cons z best []) (is_one best.thread z e)
  where
    is_one : (a b : ℕ) → a ≡ b → 1 ≤ cond (a == b) 1 0 + 0
    is_one a b e = by (a == b) refl
      where
        by : (d : Bool) → (a == b) ≡ d → 1 ≤ cond d 1 0 + 0
        by true f = omega arith
        by false f = absurd (no f)
          where
            no : (a == b) ≡ false → ⊥
            no f = grind (arith, nat_tests)
among-in z best (x ∷ xs) e = by (nat_lt best.priority x.priority) e (among-in z x xs) (among-in z best xs)
  where
    by : (b : Bool) → (cond b (first_among x xs) (first_among best xs)).thread ≡ z →
        ((first_among x xs).thread ≡ z → 1 ≤ times_queued z (x ∷ xs)) → ((first_among best xs).thread ≡ z → 1 ≤ times_queued z (best ∷ xs)) → 1 ≤ times_queued z (best ∷ x ∷ xs)
    by true e i j = omega (arith, i e, queued-cons z best (x ∷ xs))
    by false e i j = omega (arith, j e, queued-cons z best xs, queued-cons z best (x ∷ xs), queued-cons z x xs)

-- a post that wakes a thread finds it among the waiters
pub woke : (x word badge held : ℕ) (ws : List Queued) → posted badge (record { word = held; waiters = ws }) ≡ Woke x word → 1 ≤ times_queued x ws
woke x word badge held [] e = absurd (no e)
  where
    no : posted badge (record { word = held; waiters = [] }) ≡ Woke x word → ⊥
    no e = cc
woke x word badge held (w ∷ ws) e = among-in x w ws (the_same e)
  where
    the_same : posted badge (record { word = held; waiters = w ∷ ws }) ≡ Woke x word → (first_among w ws).thread ≡ x
    the_same e = cc

-- the notifications past the last
past : (notes : List Note) (i : ℕ) → length notes ≤ i → get_or notes i quiet_note ≡ quiet_note
past [] i l = refl
past (n ∷ notes) zero l = absurd (omega (arith, l))
past (n ∷ notes) (suc i) l = past notes i (omega (arith, l))

set-past : (notes : List Note) (i : ℕ) (n : Note) → length notes ≤ i → set notes i n ≡ notes
set-past [] i n l = refl
set-past (m ∷ notes) zero n l = absurd (omega (arith, l))
set-past (m ∷ notes) (suc i) n l = ap (λ ns. m ∷ ns) (set-past notes i n (omega (arith, l)))

module _ (y : ℕ) where
  -- a thread that is in the list leaves it once
  pub without-queued : (z : ℕ) (xs : List Queued) → 1 ≤ times_queued z xs → times_queued y (without z xs) + one y z ≡ times_queued y xs
  without-queued z [] l = absurd (omega (arith, l))
  without-queued z (x ∷ xs) l = by (x.thread == z) refl (queued-cons z x xs) (without-queued z xs)
    where
      same : (a b : ℕ) → (a == b) ≡ true → one y a ≡ one y b
      same a b e = ap (one y) (the_same a b e)
        where
          the_same : (a b : ℕ) → (a == b) ≡ true → a ≡ b
          the_same a b e = grind (arith, nat_tests)

      by : (b : Bool) → (x.thread == z) ≡ b → times_queued z (x ∷ xs) ≡ cond (x.thread == z) 1 0 + times_queued z xs →
          (1 ≤ times_queued z xs → times_queued y (without z xs) + one y z ≡ times_queued y xs) →
          times_queued y (cond b xs (x ∷ without z xs)) + one y z ≡ times_queued y (x ∷ xs)
      by true e f i = omega (arith, queued-cons y x xs, same x.thread z e)
      by false e f i =
          let g : times_queued z (x ∷ xs) ≡ 0 + times_queued z xs = f ∙ ap (λ b. cond b 1 0 + times_queued z xs) e in
          omega (arith, i (omega (arith, g, l)), queued-cons y x xs, queued-cons y x (without z xs))

  -- a notification with other waiters
  pub set-waiting : (notes : List Note) (i : ℕ) (n : Note) →
      times_waiting y (set notes i n) + times_queued y (get_or notes i quiet_note).waiters ≤ times_waiting y notes + times_queued y n.waiters
  set-waiting notes i n = by (nat_lt i (length notes)) refl
    where
      inside : (a b : ℕ) → nat_lt a b ≡ true → a < b
      inside a b e = grind (arith, nat_tests)

      outside : (a b : ℕ) → nat_lt a b ≡ false → b ≤ a
      outside a b e = grind (arith, nat_tests)

      by : (b : Bool) → nat_lt i (length notes) ≡ b →
          times_waiting y (set notes i n) + times_queued y (get_or notes i quiet_note).waiters ≤ times_waiting y notes + times_queued y n.waiters
      by true e = omega (arith, times_waiting-set y i n notes (inside i (length notes) e))
      by false e = rw (set-past notes i n (outside i (length notes) e), past notes i (outside i (length notes) e)) (omega arith)

module _ (system : System) (t y : ℕ) where
  abbrev held : Core → ℕ
  held k = places y k

  enters_back-held : (x : ℕ) (date : Option ℕ) (k : Core) → held (turns.enters_back by_priority x date k) ≡ held k + one y x
  enters_back-held x (Some date) k = omega (arith, dated-push y k.releases (record { thread = x; date = date }))
  enters_back-held x None k = omega (arith, back-queued y (turns.queued x k) k.ready)

  enters_front-held : (x : ℕ) (date : Option ℕ) (k : Core) → held (turns.enters_front by_priority x date k) ≡ held k + one y x
  enters_front-held x (Some date) k = omega (arith, dated-push y k.releases (record { thread = x; date = date }))
  enters_front-held x None k = omega (arith, front-queued y (turns.queued x k) k.ready)

  -- the running thread leaves
  off-held : (k : Core) (x using : ℕ) → k.running ≡ Some (record { thread = x; using = using }) → held (off k) + one y x ≡ held k
  off-held k x using e = by k.running e
    where
      by : (o : Option Chosen) → o ≡ Some (record { thread = x; using = using }) → 0 + times_queued y k.ready + times_dated y k.releases + times_waiting y k.notes + one y x
          ≡ times_running y o + times_queued y k.ready + times_dated y k.releases + times_waiting y k.notes
      by o e = rw e (omega arith)

  moves-held : (x : ℕ) (m : Moved) (k : Core) → held (turns.moves system t x m k).core ≡ held k
  moves-held x Next k = refl
  moves-held x RoundEnds k = refl
  moves-held x AllDone k = refl

  pub moves-running : (x : ℕ) (m : Moved) (k : Core) → (turns.moves system t x m k).core.running ≡ k.running
  moves-running x Next k = refl
  moves-running x RoundEnds k = refl
  moves-running x AllDone k = refl

  pub enters_back-running : (x : ℕ) (date : Option ℕ) (k : Core) → (turns.enters_back by_priority x date k).running ≡ k.running
  enters_back-running x (Some date) k = refl
  enters_back-running x None k = refl

  -- a woken thread enters once
  enters_front-running : (x : ℕ) (date : Option ℕ) (k : Core) → (turns.enters_front by_priority x date k).running ≡ k.running
  enters_front-running x (Some date) k = refl
  enters_front-running x None k = refl

  let_in-held : (x : ℕ) (k : Core) → held (turns.let_in by_priority system t x k).core ≡ held k + one y x
  let_in-held x k =
      enters_front-held x _ _ ∙ ap (λ n. n + one y x) (moves-held x (turns.move_of system x (turns.with_woken_context system t x k)) (turns.with_woken_context system t x k))

  let_in-running : (x : ℕ) (k : Core) → (turns.let_in by_priority system t x k).core.running ≡ k.running
  let_in-running x k =
      enters_front-running x _ _ ∙ moves-running x (turns.move_of system x (turns.with_woken_context system t x k)) (turns.with_woken_context system t x k)

  wakes-held : (x word : ℕ) (k : Core) → held (turns.wakes by_priority system t x word k).core ≡ held k + one y x
  wakes-held x word k =
      enters_back-held x _ _
      ∙ ap (λ n. n + one y x) (moves-held x (turns.move_of system x (turns.given system t x word (turns.with_woken_context system t x k))) (turns.given system t x word (turns.with_woken_context system t x k)))

  wakes-running : (x word : ℕ) (k : Core) → (turns.wakes by_priority system t x word k).core.running ≡ k.running
  wakes-running x word k =
      enters_back-running x _ _ ∙ moves-running x (turns.move_of system x (turns.given system t x word (turns.with_woken_context system t x k))) (turns.given system t x word (turns.with_woken_context system t x k))

  posts_as-held : (note badge : ℕ) (p : Posted) (k : Core) → posted badge (note_of k note) ≡ p → held (turns.posts_as by_priority system t note p k).core ≤ held k
  posts_as-held note badge (Woke x word) k e =
      let waits = woke x word badge (note_of k note).word (note_of k note).waiters e in
      omega (
        arith,
        wakes-held x word (with_note note (after_post (Woke x word) (note_of k note)) k),
        set-waiting y k.notes note (after_post (Woke x word) (note_of k note)),
        without-queued y x (note_of k note).waiters waits,
      )
  posts_as-held note badge (Held word) k e = omega (arith, set-waiting y k.notes note (after_post (Held word) (note_of k note)))

  pub posts_as-running : (note : ℕ) (p : Posted) (k : Core) → (turns.posts_as by_priority system t note p k).core.running ≡ k.running
  posts_as-running note (Woke x word) k = wakes-running x word (with_note note (after_post (Woke x word) (note_of k note)) k)
  posts_as-running note (Held word) k = refl

  pub posts-held : (note badge : ℕ) (k : Core) → held (turns.posts by_priority system t note badge k).core ≤ held k
  posts-held note badge k = posts_as-held note badge (posted badge (note_of k note)) k refl

  -- a server is left
  frees_as-held : (server : ℕ) (p : Posted) (k : Core) → posted 1 (note_of k server) ≡ p → held (turns.frees_as by_priority system t server p k).core ≤ held k
  frees_as-held server (Woke x word) k e =
      let waits = woke x word 1 (note_of k server).word (note_of k server).waiters e in
      omega (
        arith,
        let_in-held x (with_note server (after_post (Woke x word) (note_of k server)) k),
        set-waiting y k.notes server (after_post (Woke x word) (note_of k server)),
        without-queued y x (note_of k server).waiters waits,
      )
  frees_as-held server (Held word) k e = omega (arith, set-waiting y k.notes server (after_post (Held word) (note_of k server)))

  pub frees-held : (x server : ℕ) (k : Core) → held (turns.frees by_priority system t x server k).core ≤ held k
  frees-held x server k = frees_as-held server (posted 1 (note_of k server)) k refl

  frees_as-running : (server : ℕ) (p : Posted) (k : Core) → (turns.frees_as by_priority system t server p k).core.running ≡ k.running
  frees_as-running server (Woke x word) k = let_in-running x (with_note server (after_post (Woke x word) (note_of k server)) k)
  frees_as-running server (Held word) k = refl

  pub frees-running : (x server : ℕ) (k : Core) → (turns.frees by_priority system t x server k).core.running ≡ k.running
  frees-running x server k = frees_as-running server (posted 1 (note_of k server)) k

  pub interrupts-held : (alarm : Alarm) (k : Core) → held (turns.interrupts by_priority system t alarm k).core ≤ held k
  interrupts-held alarm k = posts-held alarm.note alarm.badge k

  pub arrives-held : (mail : Mail) (k : Core) → held (turns.arrives by_priority system t mail k).core ≤ held k
  arrives-held mail k = posts-held mail.note mail.badge k

  pub each-held : {A : Type 0} (part : A → Core → Turn) → ((x : A) (k : Core) → held (part x k).core ≤ held k) → (xs : List A) (k : Core) → held (each part xs k).core ≤ held k
  each-held part h [] k = omega arith
  each-held part h (x ∷ xs) k = omega (arith, h x k, each-held part h xs (part x k).core)

  -- a thread that stops and enters again
  stops_to_front-held : (x using n : ℕ) (cause : Why) (k : Core) → k.running ≡ Some (record { thread = x; using = using }) →
      held (turns.stops_to_front by_priority system t x cause n k).core ≤ held k
  stops_to_front-held x using n cause k e = omega (arith, enters_front-held x (turns.date_of system t x k) (off k), off-held k x using e)

  stops_to_back-held : (x using n : ℕ) (cause : Why) (k : Core) → k.running ≡ Some (record { thread = x; using = using }) →
      held (turns.stops_to_back by_priority system t x cause n k).core ≤ held k
  stops_to_back-held x using n cause k e =
      omega (arith, enters_back-held x (turns.date_of system t x (turns.charged system x n k)) (off (turns.charged system x n k)), off-held (turns.charged system x n k) x using e)

  by_test : (b : Bool) (k : Core) (u v : Turn) → held u.core ≤ held k → held v.core ≤ held k → held (cond b u v).core ≤ held k
  by_test true k u v p q = p
  by_test false k u v p q = q

  orders_running-held : (order : Order) (o : Option Chosen) (k : Core) → k.running ≡ o → held (turns.orders_running by_priority system t order o k).core ≤ held k
  orders_running-held order None k e = omega arith
  orders_running-held order (Some chosen) k e =
      by_test ((turns.part_of system chosen.thread).context == order.context) k
      (turns.stops_to_front by_priority system t chosen.thread why.Order chosen.using (turns.applied t order (turns.charged system chosen.thread chosen.using k)))
      (silent (turns.applied t order k))
      (stops_to_front-held chosen.thread chosen.using chosen.using why.Order (turns.applied t order (turns.charged system chosen.thread chosen.using k)) e)
      (omega arith)

  pub obeys-held : (order : Order) (k : Core) → held (turns.obeys by_priority system t order k).core ≤ held k
  obeys-held order k = orders_running-held order k.running k refl

  -- the due threads leave the release queue and enter the ready queue
  due-held : (p : Dated → Bool) (xs : List Dated) → times_dated y (filter p xs) + times_dated y (filter (λ x. not (p x)) xs) ≡ times_dated y xs
  due-held p [] = refl
  due-held p (x ∷ xs) = by (p x) (due-held p xs)
    where
      by : (b : Bool) → times_dated y (filter p xs) + times_dated y (filter (λ x. not (p x)) xs) ≡ times_dated y xs →
          times_dated y (cond b (x ∷ filter p xs) (filter p xs)) + times_dated y (cond (not b) (x ∷ filter (λ x. not (p x)) xs) (filter (λ x. not (p x)) xs)) ≡ times_dated y (x ∷ xs)
      by true i = omega (arith, i, dated-cons y x xs, dated-cons y x (filter p xs))
      by false i = omega (arith, i, dated-cons y x xs, dated-cons y x (filter (λ x. not (p x)) xs))

  released-held : (xs : List Dated) (k : Core) → held (each (turns.released by_priority) xs k).core ≡ held k + times_dated y xs
  released-held [] k = omega arith
  released-held (x ∷ xs) k =
      released-held xs (turns.enters_back by_priority x.thread None k)
      ∙ omega (arith, enters_back-held x.thread None k, dated-cons y x xs)

  pub releases-held : (k : Core) → held (turns.releases by_priority system t k).core ≤ held k
  releases-held k =
      omega (
        arith,
        released-held (filter (is_due t) k.releases) (record k { releases = filter (λ x. not (is_due t x)) k.releases }),
        due-held (is_due t) k.releases,
      )

  pub preempts_by-held : (o : Option Chosen) (best : Option Queued) (k : Core) → k.running ≡ o → held (turns.preempts_by by_priority system t o best k).core ≤ held k
  preempts_by-held (Some chosen) (Some best) k e =
      by_test (nat_lt (thread_of k chosen.thread).place.priority best.priority) k
      (turns.stops_to_front by_priority system t chosen.thread why.Preempt chosen.using (turns.charged system chosen.thread chosen.using k)) (silent k)
      (stops_to_front-held chosen.thread chosen.using chosen.using why.Preempt (turns.charged system chosen.thread chosen.using k) e)
      (omega arith)
  preempts_by-held (Some chosen) None k e = omega arith
  preempts_by-held None best k e = omega arith

  -- the chosen thread leaves the ready queue
  chooses_of-held : (o : Option Chosen) (ready : List Queued) (k : Core) → k.running ≡ o → k.ready ≡ ready → held (turns.chooses_of by_priority system t o (first_of ready) k).core ≤ held k
  chooses_of-held (Some chosen) ready k e f = omega arith
  chooses_of-held None [] k e f = omega arith
  chooses_of-held None (best ∷ others) k e f = rw f (omega (arith, queued-cons y best others))

-- the end of the tick
module _ (system : System) (c t y : ℕ) where
  pub waits_as-got : (x note word : ℕ) (k : Core) → held system t y (turns.waits_as system t x note (Got word) k).core ≤ held system t y k
  waits_as-got x note word k =
      let given = turns.given system t x word (with_note note (after_wait (Got word) (turns.queued x k) (note_of k note)) k) in
      omega (arith, moves-held system t y x (turns.move_of system x given) given, set-waiting y k.notes note (after_wait (Got word) (turns.queued x k) (note_of k note)))

  pub enters_as-got : (x server word : ℕ) (k : Core) → held system t y (turns.enters_as system t x server (Got word) k).core ≤ held system t y k
  enters_as-got x server word k =
      let taken = with_note server (after_wait (Got word) (turns.queued x k) (note_of k server)) k in
      omega (arith, moves-held system t y x (turns.move_of system x taken) taken, set-waiting y k.notes server (after_wait (Got word) (turns.queued x k) (note_of k server)))

  waits_as-blocks : (x note : ℕ) (k : Core) → held system t y (turns.waits_as system t x note Blocks k).core ≤ held system t y k + one y x
  waits_as-blocks x note k =
      omega (arith, set-waiting y k.notes note (after_wait Blocks (turns.queued x k) (note_of k note)), queued-push y (note_of k note).waiters (turns.queued x k))

  pub signals-held : (x note badge : ℕ) (k : Core) → held system t y (turns.signals by_priority system c t x note badge k).core ≤ held system t y k
  signals-held x note badge k =
      by_test system t y ((note_part system note).core == c) k (turns.posts by_priority system t note badge k)
      (record { core = k; rows = []; mails = turns.mail_to system c t note badge ∷ [] })
      (posts-held system t y note badge k) (omega arith)

  pub signals-running : (x note badge : ℕ) (k : Core) → (turns.signals by_priority system c t x note badge k).core.running ≡ k.running
  signals-running x note badge k = by ((note_part system note).core == c)
    where
      by : (b : Bool) → (cond b (turns.posts by_priority system t note badge k) (record { core = k; rows = []; mails = turns.mail_to system c t note badge ∷ [] })).core.running ≡ k.running
      by true = posts_as-running system t y note (posted badge (note_of k note)) k
      by false = refl

  -- a stop of the running thread
  stops-held : (x using : ℕ) (cause : Why) (standing : Standing) (k : Core) → k.running ≡ Some (record { thread = x; using = using }) →
      held system t y (turns.stops system x cause using standing k).core + one y x ≡ held system t y k
  stops-held x using cause standing k e = off-held system t y (turns.charged system x using k) x using e

  spent-held : (x using : ℕ) (k : Core) → k.running ≡ Some (record { thread = x; using = using }) → held system t y (turns.may_stop by_priority system t x using after.GoesOn k).core ≤ held system t y k
  spent-held x using k e =
      by_test system t y (using == head_amount (turns.its_context system x k)) k (turns.stops_to_back by_priority system t x why.Spent using k) (silent k)
      (stops_to_back-held system t y x using using why.Spent k e) (omega arith)

  may_stop-held : (x using : ℕ) (cause : AfterItem) (k : Core) → k.running ≡ Some (record { thread = x; using = using }) → held system t y (turns.may_stop by_priority system t x using cause k).core ≤ held system t y k
  may_stop-held x using after.Ends k e = omega (arith, stops-held x using why.Done Done k e)
  may_stop-held x using after.Blocks k e = omega (arith, stops-held x using why.Wait Blocked k e)
  may_stop-held x using after.Calls k e = omega (arith, stops-held x using why.Call Blocked k e)
  may_stop-held x using after.Yields k e = stops_to_back-held system t y x using (head_amount (turns.its_context system x k)) why.Yield k e
  may_stop-held x using after.GoesOn k e = spent-held x using k e

  -- the item takes effect and at most one stop follows: a thread that joins the waiters stops
  then_stops : (x using : ℕ) (cause : AfterItem) (k : Core) (effect : Turn) → k.running ≡ Some (record { thread = x; using = using }) → effect.core.running ≡ k.running → held system t y effect.core ≤ held system t y k →
      held system t y (effect followed_by turns.may_stop by_priority system t x using cause).core ≤ held system t y k
  then_stops x using cause k effect e f l = omega (arith, l, may_stop-held x using cause effect.core (f ∙ e))

  finishes-wait : (x using note : ℕ) (w : Waited) (k : Core) → k.running ≡ Some (record { thread = x; using = using }) →
      held system t y (turns.waits_as system t x note w k followed_by turns.may_stop by_priority system t x using (turns.after_waited w)).core ≤ held system t y k
  finishes-wait x using note (Got word) k e =
      then_stops x using after.GoesOn k (turns.waits_as system t x note (Got word) k) e
      (moves-running system t y x (turns.move_of system x given) given) (waits_as-got x note word k)
    where
      given : Core
      given = turns.given system t x word (with_note note (after_wait (Got word) (turns.queued x k) (note_of k note)) k)
  finishes-wait x using note Blocks k e =
      omega (arith, waits_as-blocks x note k, stops-held x using why.Wait Blocked (turns.waits_as system t x note Blocks k).core e)

  finishes-enter : (x using server : ℕ) (w : Waited) (k : Core) → k.running ≡ Some (record { thread = x; using = using }) →
      held system t y (turns.enters_as system t x server w k followed_by turns.may_stop by_priority system t x using (turns.after_entered w)).core ≤ held system t y k
  finishes-enter x using server (Got word) k e =
      then_stops x using after.GoesOn k (turns.enters_as system t x server (Got word) k) e
      (moves-running system t y x (turns.move_of system x taken) taken) (enters_as-got x server word k)
    where
      taken : Core
      taken = with_note server (after_wait (Got word) (turns.queued x k) (note_of k server)) k
  finishes-enter x using server Blocks k e =
      omega (arith, waits_as-blocks x server k, stops-held x using why.Call Blocked (turns.enters_as system t x server Blocks k).core e)

  pub moves_on-held : (x : ℕ) (k : Core) → held system t y (turns.moves_on system t x k).core ≤ held system t y k
  moves_on-held x k = omega (arith, moves-held system t y x (turns.move_of system x k) k)

  finishes-held : (x using : ℕ) (item : Option Item) (k : Core) → k.running ≡ Some (record { thread = x; using = using }) →
      held system t y (turns.finishes by_priority system c t x using item k).core ≤ held system t y k
  finishes-held x using (Some (Signal note badge)) k e =
      let sent = turns.signals by_priority system c t x note badge k in
      then_stops x using (turns.after_item system x (Some (Signal note badge)) k) k (turns.takes_effect by_priority system c t x (Some (Signal note badge)) k) e
      (moves-running system t y x (turns.move_of system x sent.core) sent.core ∙ signals-running x note badge k)
      (omega (arith, moves_on-held x sent.core, signals-held x note badge k))
  finishes-held x using (Some (Wait note)) k e = finishes-wait x using note (waited (note_of k note)) k e
  finishes-held x using (Some (Compute ticks)) k e =
      then_stops x using (turns.after_item system x (Some (Compute ticks)) k) k (turns.moves_on system t x k) e (moves-running system t y x (turns.move_of system x k) k) (moves_on-held x k)
  finishes-held x using (Some Yield) k e =
      then_stops x using (turns.after_item system x (Some Yield) k) k (turns.moves_on system t x k) e (moves-running system t y x (turns.move_of system x k) k) (moves_on-held x k)
  finishes-held x using (Some (On badges)) k e =
      then_stops x using (turns.after_item system x (Some (On badges)) k) k (turns.moves_on system t x k) e (moves-running system t y x (turns.move_of system x k) k) (moves_on-held x k)
  finishes-held x using (Some Spin) k e =
      then_stops x using (turns.after_item system x (Some Spin) k) k (turns.moves_on system t x k) e (moves-running system t y x (turns.move_of system x k) k) (moves_on-held x k)
  finishes-held x using (Some (Enter server priority)) k e = finishes-enter x using server (waited (note_of k server)) k e
  finishes-held x using (Some (Leave server priority)) k e =
      let freed = turns.frees by_priority system t x server k in
      then_stops x using (turns.after_item system x (Some (Leave server priority)) k) k (turns.takes_effect by_priority system c t x (Some (Leave server priority)) k) e
      (moves-running system t y x (turns.move_of system x freed.core) freed.core ∙ frees-running system t y x server k)
      (omega (arith, moves_on-held x freed.core, frees-held system t y x server k))
  finishes-held x using None k e = then_stops x using after.GoesOn k (silent k) e refl (omega arith)

  after_count-held : (x using : ℕ) (k : Core) → k.running ≡ Some (record { thread = x; using = using }) → held system t y (turns.after_count by_priority system c t x using k).core ≤ held system t y k
  after_count-held x using k e =
      by_test system t y ((thread_of k x).place.left == 0) k (turns.finishes by_priority system c t x using (turns.item_of system x k) k) (turns.may_stop by_priority system t x using after.GoesOn k)
      (finishes-held x using (turns.item_of system x k) k e) (spent-held x using k e)

  pub tick_of-held : (o : Option Chosen) (k : Core) → k.running ≡ o → held system t y (turns.tick_of by_priority system c t o k).core ≤ held system t y k
  tick_of-held None k e = omega arith
  tick_of-held (Some chosen) k e =
      omega (arith, after_count-held chosen.thread (chosen.using + 1) (turns.counts chosen k) refl, counted)
    where
      counted : held system t y (turns.counts chosen k) ≡ held system t y k
      counted = rw e refl

  -- a whole turn
  pub turn-held : (mails : List Mail) (k : Core) → held system t y (turns.turn_with by_priority system c t mails k).core ≤ held system t y k
  turn-held mails k = chain _ _ _ _ _ _ _ _
      (tick_of-held k.running k refl)
      (each-held system t y (turns.interrupts by_priority system t) (interrupts-held system t y) (ringing t (alarms_at system c t)) first.core)
      (each-held system t y (turns.arrives by_priority system t) (arrives-held system t y) mails rang.core)
      (each-held system t y (turns.obeys by_priority system t) (obeys-held system t y) (filter (is_for_now system c t) system.orders) second.core)
      (releases-held system t y third.core)
      (preempts_by-held system t y fourth.core.running (first_of fourth.core.ready) fourth.core refl)
      (chooses_of-held system t y fifth.core.running fifth.core.ready fifth.core refl refl)
    where
      first : Turn
      first = turns.tick by_priority system c t k

      rang : Turn
      rang = each (turns.interrupts by_priority system t) (ringing t (alarms_at system c t)) first.core

      second : Turn
      second = each (turns.arrives by_priority system t) mails rang.core

      third : Turn
      third = each (turns.obeys by_priority system t) (filter (is_for_now system c t) system.orders) second.core

      fourth : Turn
      fourth = turns.releases by_priority system t third.core

      fifth : Turn
      fifth = turns.preempts by_priority system t fourth.core

      chain : (a b z d e f g h : ℕ) → b ≤ a → z ≤ b → d ≤ z → e ≤ d → f ≤ e → g ≤ f → h ≤ g → h ≤ a
      chain a b z d e f g h p o q r s u v = omega arith

-- at first a thread has the place of its start
opening-dated : (system : System) (c y number : ℕ) (threads : List ThreadPart) → times_dated y (opening_releases system c number threads) ≤ cond (nat_lt y number) 0 1
opening-dated system c y number [] = omega arith
opening-dated system c y number (part ∷ parts) = by (core_of system part == c) (opening-dated system c y (number + 1) parts)
  where
    next : (n number y : ℕ) → n ≤ cond (nat_lt y (number + 1)) 0 1 → n ≤ cond (nat_lt y number) 0 1
    next n number y l = grind (arith, nat_tests)

    with_one : (n number y : ℕ) → n ≤ cond (nat_lt y (number + 1)) 0 1 → cond (number == y) 1 0 + n ≤ cond (nat_lt y number) 0 1
    with_one n number y l = grind (arith, nat_tests)

    by : (b : Bool) → times_dated y (opening_releases system c (number + 1) parts) ≤ cond (nat_lt y (number + 1)) 0 1 →
        times_dated y (cond b (record { thread = number; date = part.start } ∷ opening_releases system c (number + 1) parts) (opening_releases system c (number + 1) parts)) ≤ cond (nat_lt y number) 0 1
    by true i = rw (dated-cons y (record { thread = number; date = part.start }) (opening_releases system c (number + 1) parts)) (with_one _ number y i)
    by false i = next _ number y i

pub quiet-waiting : (y : ℕ) (xs : List NotePart) → times_waiting y (map opening_note xs) ≡ 0
quiet-waiting y [] = refl
quiet-waiting y (x ∷ xs) = omega (arith, quiet-waiting y xs)

opening-held : (system : System) (c y : ℕ) → places y (opening_core system c) ≤ 1
opening-held system c y = omega (arith, opening-dated system c y 0 system.threads, quiet-waiting y system.notes, at_most y)
  where
    at_most : (y : ℕ) → cond (nat_lt y 0) 0 1 ≤ 1
    at_most y = grind (arith, nat_tests)

-- a queue by priority has the threads of the list
pub sorted-queued : (y : ℕ) (xs : List Queued) → times_queued y (sorted xs) ≡ times_queued y xs
sorted-queued y [] = refl
sorted-queued y (x ∷ xs) = omega (arith, front-queued y x (sorted xs), sorted-queued y xs, queued-cons y x xs)

pub one-shown : (system : System) → TakesTime system → (c t y : ℕ) → c < system.cores → places y (clocks.core_shown system (clocks.world system t) c) ≤ 1
one-shown system takes_time c zero y known =
    omega (arith, ap (places y) (core_shown-first system c known), opening-held system c y)
one-shown system takes_time c (suc t) y known =
    not_more _ _ _ (ap (places y) (core_shown-kept system takes_time t c known))
    (turn-held system c t y (filter (clocks.arrives_at system t c) (clocks.world system t).mails) (clocks.core_shown system (clocks.world system t) c)) (one-shown system takes_time c t y known)
  where
    not_more : (a b d : ℕ) → a ≡ b → b ≤ d → d ≤ 1 → a ≤ 1
    not_more a b d e p q = omega arith

pub one-place : (system : System) → TakesTime system → ThreadsHaveOnePlace system
one-place system takes_time c t y known =
    omega (arith, one-shown system takes_time c t y known, sorted-queued y (clocks.core_at system (clocks.world system t) c).ready)
