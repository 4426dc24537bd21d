-- A thread passes each part of its core's turn.
use Rattle.std.proofs.Common.{◌≡◌, ℕ, ◌+◌, ◌≤◌, Bool, true, false, cond, ◌==◌, [], ◌∷◌, slice_get, Option, Some, None, refl, sym, ap, subst, ◌∙◌, arith}
use Rattle.std.specs.Prelude.{nat_lt}
use Rattle.mcs_ticks.specs.Queue.{by_priority, first_of, rest_of}
use Rattle.mcs_ticks.specs.declared.queue.Queued.{Queued}
use Rattle.mcs_ticks.specs.declared.row.What.TheVariants as row
use Rattle.mcs_ticks.specs.declared.row.Why.TheVariants as why
use Rattle.mcs_control.specs.declared.config.Order.{Order}
use Rattle.mcs_notify.specs.Note.{posted, waited}
use Rattle.mcs_notify.specs.declared.posted.Posted.{Posted}
use Rattle.mcs_notify.specs.declared.posted.Posted.TheVariants.{Woke, Held}
use Rattle.mcs_notify.specs.declared.posted.Waited.{Waited}
use Rattle.mcs_notify.specs.declared.posted.Waited.TheVariants.{Got, Blocks}
use Rattle.mcs_script.specs.declared.item.Item.{Item}
use Rattle.mcs_script.specs.declared.item.Item.TheVariants.{Compute, Signal, Wait, Yield, On, Spin, Enter, Leave}
use Rattle.mcs_script.specs.declared.moved.Moved.{Moved}
use Rattle.mcs_script.specs.Script.{is_wait, left_after, move_after}
use Rattle.mcs_script.specs.declared.place.Place.{Place}
use Rattle.mcs_mail.specs.declared.mail.Mail.{Mail}
use Rattle.mcs_system.specs.System.{System, note_part, thread_part, core_of, is_server}
use Rattle.mcs_system.specs.WellFormed.{IsWellFormed, IsItem}
use Rattle.mcs_core.specs.declared.alarm.Alarm.{Alarm}
use Rattle.mcs_core.specs.declared.standing.AfterItem.TheVariants as after
use Rattle.mcs_core.specs.declared.standing.Chosen.{Chosen}
use Rattle.mcs_core.specs.declared.standing.Standing as core_standing
use Rattle.mcs_core.specs.declared.standing.Thread.{Thread}
use Rattle.mcs_core.specs.Core.{Core, thread_of, note_of, stands}
use Rattle.mcs_core.specs.Places.{times_queued}
use Rattle.mcs_core.specs.Turn as turns
use Rattle.mcs_core.specs.Turn.{Turn, silent, says, ◌followed_by◌, each, is_for_now}
use Rattle.mcs_core.proofs.Counts.{times_queued-rest}
use Rattle.mcs_laws.specs.Places.{times_running}
use Rattle.mcs_laws.proofs.Places.{woke, moves-running, signals-running, frees-running}
use Rattle.mcs_verdict.specs.declared.standing.Standing.{Standing}
use Rattle.mcs_verdict.specs.declared.standing.Standing.TheVariants.{Pending, Ready, Running, Throttled, Blocked, AtServer, Done}
use Rattle.mcs_verdict.specs.Calls.{waited_on}
use Rattle.mcs_verdict_laws.proofs.Steps.{Told, told_of, ended-append, ended-other, walks-append, walks-other}
use Rattle.mcs_verdict_laws.proofs.Holds.{runs_as, ready_as, first, IsUnderWay, IsStarted, Holds, Same, same-refl, same-trans, same-context, same-thread, same-running, same-ready, same-front, holds-same, Aside, aside-silent, aside_if, Goes, goes-aside, goes-then, goes-assoc, goes_if}
use Rattle.mcs_verdict_laws.proofs.Entering.{self, equal, plain_order, plain_preempt, step-run, under-thread, started-thread, under-stands, started-stands, stops_to_front-goes, calm-goes}
use Rattle.mcs_verdict_laws.proofs.Others.{moves_on-aside, woke-aside, held-aside, let-aside, free-aside, frees-aside, signals-aside, enters_as-aside, waits_as-aside, leaves-aside, charged-aside, may_stop-aside}
use Rattle.mcs_verdict_laws.proofs.Finishing.{item_home, unless_first, finish-goes, got-goes, blocks-goes, enters-blocks, enters-goes, waits_blocked, waits_at_server, woken-goes, let-goes}

-- how a thread stands that has a place
runs_one : (standing : Standing) → 1 ≤ runs_as standing → standing ≡ Running
runs_one Running l = refl
runs_one Pending l = absurd (omega (arith, l))
runs_one Ready l = absurd (omega (arith, l))
runs_one Blocked l = absurd (omega (arith, l))
runs_one Throttled l = absurd (omega (arith, l))
runs_one AtServer l = absurd (omega (arith, l))
runs_one Done l = absurd (omega (arith, l))

ready_one : (standing : Standing) → 1 ≤ ready_as standing → standing ≡ Ready
ready_one Ready l = refl
ready_one Pending l = absurd (omega (arith, l))
ready_one Running l = absurd (omega (arith, l))
ready_one Blocked l = absurd (omega (arith, l))
ready_one Throttled l = absurd (omega (arith, l))
ready_one AtServer l = absurd (omega (arith, l))
ready_one Done l = absurd (omega (arith, l))

module _ (system : System) (well : IsWellFormed system) (x : ℕ) where
  -- posts
  posts_as-goes : (from t note badge : ℕ) (post : Posted) (told : Told) (k : Core) → is_server system note ≡ false
      → posted badge (note_of k note) ≡ post → Holds system x from t told k
      → Goes system x from t told (turns.posts_as by_priority system t note post k)
  posts_as-goes from t note badge (Held word) told k signalled p h =
      goes-aside system x from t told k (turns.posts_as by_priority system t note (Held word) k) h (held-aside system x t note word k)
  posts_as-goes from t note badge (Woke y word) told k signalled p h = by (y == x) refl
    where
      by : (b : Bool) → (y == x) ≡ b → Goes system x from t told (turns.posts_as by_priority system t note (Woke y word) k)
      by true e =
          let same = equal y x e in
          let waits = woke y word badge (note_of k note).word (note_of k note).waiters p in
          let alike = ap (λ z. times_queued z (note_of k note).waiters) same in
          let own : 1 ≤ times_queued x (note_of k note).waiters = omega (arith, alike, waits) in
          let blocked : told.standing ≡ Blocked = waits_blocked system well x from t note told k signalled own h in
          let P : ℕ → Type 0 = λ z. Goes system x from t told (turns.posts_as by_priority system t note (Woke z word) k) in
          let Q : Standing → Type 0 = λ s. Holds system x from t (told_of s told.begun) k → Goes system x from t (told_of s told.begun)
          (turns.posts_as by_priority system t note (Woke x word) k) in
          subst P (sym same) (subst Q (sym blocked) (woken-goes system well x from t note word told.begun k signalled own) h)
      by false e = goes-aside system x from t told k (turns.posts_as by_priority system t note (Woke y word) k) h
          (woke-aside system x t note badge y word k p e)

  posts-goes : (from t note badge : ℕ) (told : Told) (k : Core) → is_server system note ≡ false → Holds system x from t told k
      → Goes system x from t told (turns.posts by_priority system t note badge k)
  posts-goes from t note badge told k signalled h = posts_as-goes from t note badge (posted badge (note_of k note)) told k signalled refl h

  -- a server is left
  frees_as-goes : (from t server : ℕ) (post : Posted) (told : Told) (k : Core) → is_server system server ≡ true
      → posted 1 (note_of k server) ≡ post → Holds system x from t told k
      → Goes system x from t told (turns.frees_as by_priority system t server post k)
  frees_as-goes from t server (Held word) told k served p h =
      goes-aside system x from t told k (turns.frees_as by_priority system t server (Held word) k) h (free-aside system x t server word k)
  frees_as-goes from t server (Woke y word) told k served p h = by (y == x) refl
    where
      by : (b : Bool) → (y == x) ≡ b → Goes system x from t told (turns.frees_as by_priority system t server (Woke y word) k)
      by true e =
          let same = equal y x e in
          let there = woke y word 1 (note_of k server).word (note_of k server).waiters p in
          let alike = ap (λ z. times_queued z (note_of k server).waiters) same in
          let own : 1 ≤ times_queued x (note_of k server).waiters = omega (arith, alike, there) in
          let waits : told.standing ≡ AtServer = waits_at_server system well x from t server told k served own h in
          let P : ℕ → Type 0 = λ z. Goes system x from t told (turns.frees_as by_priority system t server (Woke z word) k) in
          let Q : Standing → Type 0 = λ s. Holds system x from t (told_of s told.begun) k → Goes system x from t (told_of s told.begun)
          (turns.frees_as by_priority system t server (Woke x word) k) in
          subst P (sym same) (subst Q (sym waits) (let-goes system well x from t server word told.begun k served own) h)
      by false e = goes-aside system x from t told k (turns.frees_as by_priority system t server (Woke y word) k) h
          (let-aside system x t server y word k p e)

  frees-goes : (from t y server : ℕ) (told : Told) (k : Core) → is_server system server ≡ true → Holds system x from t told k
      → Goes system x from t told (turns.frees by_priority system t y server k)
  frees-goes from t y server told k served h =
      goes-then system x from from t told (says (row.Signal y server 1) k)
      (λ core. turns.frees_as by_priority system t server (posted 1 (note_of core server)) core)
      (goes-aside system x from t told k (says (row.Signal y server 1) k) h record { same = same-refl system x k; rows = (tt, tt) })
      (λ last holds. frees_as-goes from t server (posted 1 (note_of k server)) last k served refl holds)

  signals-goes : (from c t y note badge : ℕ) (told : Told) (k : Core) → is_server system note ≡ false → Holds system x from t told k
      → Goes system x from t told (turns.signals by_priority system c t y note badge k)
  signals-goes from c t y note badge told k signalled h =
      let sent : Turn = record { core = k; rows = []; mails = turns.mail_to system c t note badge ∷ [] } in
      goes-then system x from from t told (says (row.Signal y note badge) k)
      (λ core. cond ((note_part system note).core == c) (turns.posts by_priority system t note badge core)
      (record { core = core; rows = []; mails = turns.mail_to system c t note badge ∷ [] }))
      (goes-aside system x from t told k (says (row.Signal y note badge) k) h record { same = same-refl system x k; rows = (tt, tt) })
      (λ last holds. goes_if system x from t last ((note_part system note).core == c) (turns.posts by_priority system t note badge k) sent
      (posts-goes from t note badge last k signalled holds)
      (goes-aside system x from t last k sent holds record { same = same-refl system x k; rows = tt }))

  pub interrupts-goes : (from t : ℕ) (alarm : Alarm) (told : Told) (k : Core) → is_server system alarm.note ≡ false → Holds system x from t told k
      → Goes system x from t told (turns.interrupts by_priority system t alarm k)
  interrupts-goes from t alarm told k signalled h =
      goes-then system x from from t told (says (row.Interrupt alarm.source alarm.note alarm.badge) k)
      (turns.posts by_priority system t alarm.note alarm.badge)
      (goes-aside system x from t told k
      (says (row.Interrupt alarm.source alarm.note alarm.badge) k) h record { same = same-refl system x k; rows = (tt, tt) })
      (λ last holds. posts-goes from t alarm.note alarm.badge last k signalled holds)

  pub arrives-goes : (from t : ℕ) (mail : Mail) (told : Told) (k : Core) → is_server system mail.note ≡ false → Holds system x from t told k
      → Goes system x from t told (turns.arrives by_priority system t mail k)
  arrives-goes from t mail told k signalled h =
      goes-then system x from from t told (says (row.Arrive mail.note mail.badge mail.maker) k)
      (turns.posts by_priority system t mail.note mail.badge)
      (goes-aside system x from t told k
      (says (row.Arrive mail.note mail.badge mail.maker) k) h record { same = same-refl system x k; rows = (tt, tt) })
      (λ last holds. posts-goes from t mail.note mail.badge last k signalled holds)

  -- the running thread is this one or another
  split : (from to t : ℕ) (told : Told) (k : Core) (chosen : Chosen) (turn : ℕ → Turn) → k.running ≡ Some chosen → Holds system x from t told k
      → ((chosen.thread == x) ≡ false → Goes system x to t told (turn chosen.thread))
      → (Holds system x from t (told_of Running told.begun) k → k.running ≡ Some (record { thread = x; using = chosen.using }) → Goes system x to t
      (told_of Running told.begun) (turn x))
      → Goes system x to t told (turn chosen.thread)
  split from to t told k chosen turn r h other own = by (chosen.thread == x) refl
    where
      by : (b : Bool) → (chosen.thread == x) ≡ b → Goes system x to t told (turn chosen.thread)
      by true e =
          let same = equal chosen.thread x e in
          let one : ◌≡◌ {A = ℕ} (cond (chosen.thread == x) 1 0) 1 = ap (λ b. cond b 1 0) e in
          let runs = ap (times_running x) r in
          let running : told.standing ≡ Running = runs_one told.standing (let w = h.runs in omega (arith, w, one, runs)) in
          let P : ℕ → Type 0 = λ z. Goes system x to t told (turn z) in
          let R : ℕ → Type 0 = λ z. k.running ≡ Some (record { thread = z; using = chosen.using }) in
          let Q : Standing → Type 0 = λ s. Holds system x from t (told_of s told.begun) k → Goes system x to t (told_of s told.begun) (turn x) in
          subst P (sym same) (subst Q (sym running) (λ holds. own holds (subst R same r)) h)
      by false e = other e

  -- the end of the tick
  effect-running : (c t y : ℕ) (item : Option Item) (k : Core) → (turns.takes_effect by_priority system c t y item k).core.running ≡ k.running
  effect-running c t y (Some (Signal note badge)) k =
      let sent = turns.signals by_priority system c t y note badge k in
      moves-running system t x y (turns.move_of system y sent.core) sent.core ∙ signals-running system c t x y note badge k
  effect-running c t y (Some (Wait note)) k = by (waited (note_of k note))
    where
      by : (w : Waited) → (turns.waits_as system t y note w k).core.running ≡ k.running
      by (Got word) = moves-running system t x y _ _
      by Blocks = refl
  effect-running c t y (Some (Compute ticks)) k = moves-running system t x y (turns.move_of system y k) k
  effect-running c t y (Some Yield) k = moves-running system t x y (turns.move_of system y k) k
  effect-running c t y (Some (On badges)) k = moves-running system t x y (turns.move_of system y k) k
  effect-running c t y (Some Spin) k = moves-running system t x y (turns.move_of system y k) k
  effect-running c t y (Some (Enter server priority)) k = by (waited (note_of k server))
    where
      by : (w : Waited) → (turns.enters_as system t y server w k).core.running ≡ k.running
      by (Got word) = moves-running system t x y _ _
      by Blocks = refl
  effect-running c t y (Some (Leave server priority)) k =
      let freed = turns.frees by_priority system t y server k in
      moves-running system t x y (turns.move_of system y freed.core) freed.core ∙ frees-running system t x y server k
  effect-running c t y None k = refl

  -- what an item says of its notification or server
  abbrev IsOwn : Option Item → Type 0
  IsOwn (Some (Signal note badge)) = is_server system note ≡ false
  IsOwn (Some (Leave server priority)) = is_server system server ≡ true
  IsOwn _ = Unit {0}

  own-item : (core : ℕ) (item : Item) → IsItem system core item → IsOwn (Some item)
  own-item core (Signal note badge) is = is.1
  own-item core (Leave server priority) is = is.2
  own-item core (Compute ticks) is = tt
  own-item core (Wait note) is = tt
  own-item core Yield is = tt
  own-item core (On badges) is = tt
  own-item core Spin is = tt
  own-item core (Enter server priority) is = tt

  is-own : (y place : ℕ) (o : Option Item) → slice_get (thread_part system y).script place ≡ o → IsOwn o
  is-own y place None e = tt
  is-own y place (Some item) e = own-item (core_of system (thread_part system y)) item (item_home system well y place item e)

  effect-other : (from c t y : ℕ) (item : Option Item) (told : Told) (k : Core) → IsOwn item → (y == x) ≡ false → Holds system x from t told k
      → Goes system x from t told (turns.takes_effect by_priority system c t y item k)
  effect-other from c t y (Some (Signal note badge)) told k own e h =
      let sent = turns.signals by_priority system c t y note badge k in
      goes-then system x from from t told sent (turns.moves_on system t y) (signals-goes from c t y note badge told k own h)
      (λ last holds. goes-aside system x from t last sent.core (turns.moves_on system t y sent.core) holds (moves_on-aside system x t y sent.core e))
  effect-other from c t y (Some (Wait note)) told k own e h =
      goes-aside system x from t told k (turns.waits_as system t y note (waited (note_of k note)) k) h
      (waits_as-aside system x t y note (waited (note_of k note)) k e)
  effect-other from c t y (Some (Compute ticks)) told k own e h =
      goes-aside system x from t told k (turns.moves_on system t y k) h (moves_on-aside system x t y k e)
  effect-other from c t y (Some Yield) told k own e h =
      goes-aside system x from t told k (turns.moves_on system t y k) h (moves_on-aside system x t y k e)
  effect-other from c t y (Some (On badges)) told k own e h =
      goes-aside system x from t told k (turns.moves_on system t y k) h (moves_on-aside system x t y k e)
  effect-other from c t y (Some Spin) told k own e h =
      goes-aside system x from t told k (turns.moves_on system t y k) h (moves_on-aside system x t y k e)
  effect-other from c t y (Some (Enter server priority)) told k own e h =
      goes-aside system x from t told k (turns.enters_as system t y server (waited (note_of k server)) k) h
      (enters_as-aside system x t y server (waited (note_of k server)) k e)
  effect-other from c t y (Some (Leave server priority)) told k own e h =
      let freed = turns.frees by_priority system t y server k in
      goes-then system x from from t told freed (turns.moves_on system t y) (frees-goes from t y server told k own h)
      (λ last holds. goes-aside system x from t last freed.core (turns.moves_on system t y freed.core) holds (moves_on-aside system x t y freed.core e))
  effect-other from c t y None told k own e h = goes-aside system x from t told k (silent k) h (aside-silent system x k k (same-refl system x k))

  finishes-other : (from c t y using held : ℕ) (item : Option Item) (told : Told) (k : Core) → IsOwn item → (y == x) ≡ false → k.running ≡ Some
      (record { thread = y; using = held })
      → Holds system x from t told k → Goes system x from t told (turns.finishes by_priority system c t y using item k)
  finishes-other from c t y using held item told k own e r h =
      let effect = turns.takes_effect by_priority system c t y item k in
      let cause = turns.after_item system y item k in
      goes-then system x from from t told effect (turns.may_stop by_priority system t y using cause) (effect-other from c t y item told k own e h)
      (λ last holds. goes-aside system x from t last effect.core (turns.may_stop by_priority system t y using cause effect.core) holds
      (may_stop-aside system x t y using held cause effect.core (effect-running c t y item k ∙ r) e))

  -- the round of the running thread is under way if its item is no wait
  begun_there : (from t : ℕ) (begun : Option ℕ) (k : Core) → Holds system x from t (told_of Running begun) k
      → waited_on (turns.item_of system x k) ≡ None → begun ≡ Some (thread_of k x).since
  begun_there from t begun k h e =
      h.own.0.begins ∙ unless_first (thread_part system x).script (first system x).waits (thread_of k x).place.item (thread_of k x).since refl e

  finishes-signal : (from c t using note badge : ℕ) (begun : Option ℕ) (k : Core) → Holds system x from t (told_of Running begun) k
      → turns.item_of system x k ≡ Some (Signal note badge)
      → Goes system x from t (told_of Running begun) (turns.finishes by_priority system c t x using (Some (Signal note badge)) k)
  finishes-signal from c t using note badge begun k h item =
      let sent = turns.signals by_priority system c t x note badge k in
      let cause = turns.after_move (turns.move_of system x k) after.GoesOn in
      let a = signals-aside system x c t x note badge k h.waits in
      let holds = holds-same system x from t (told_of Running begun) k sent.core a.same h in
      let there : begun ≡ Some (thread_of sent.core x).since = begun_there from t begun k h (ap waited_on item) ∙ ap (λ m. Some m)
      (sym a.same.since) in
      let moved : turns.move_of system x sent.core ≡ turns.move_of system x k =
      ap (λ (p : Place). move_after (thread_part system x).script (thread_part system x).rounds p) a.same.place
      in
      let none : is_wait (turns.item_of system x sent.core) ≡ false =
      ap (λ (p : Place). is_wait (slice_get (thread_part system x).script p.item)) a.same.place ∙ ap is_wait item
      in
      let P : Moved → Type 0 =
      λ move. Goes system x from t (told_of Running begun)
      (turns.moves system t x (turns.move_of system x sent.core) sent.core followed_by turns.may_stop by_priority system t x using
      (turns.after_move move after.GoesOn))
      in
      let q = subst P moved (finish-goes system well x from t using begun sent.core (turns.move_of system x sent.core) after.GoesOn tt holds there none refl) in
      goes-assoc system x from t (told_of Running begun) sent (turns.moves_on system t x) (turns.may_stop by_priority system t x using cause)
      record {
        last = q.last;
        walks = walks-append x (first system x) t sent.rows _ (told_of Running begun) (told_of Running begun) q.last
            (walks-other x (first system x) t (told_of Running begun) sent.rows a.rows) q.walks;
        holds = q.holds;
        ended = λ before. ended-append x before sent.rows _ (ended-other x before sent.rows a.rows) q.ended;
      }

  finishes-wait : (from t using note : ℕ) (w : Waited) (begun : Option ℕ) (k : Core) → Holds system x from t (told_of Running begun) k
      → turns.item_of system x k ≡ Some (Wait note)
      → Goes system x from t (told_of Running begun)
      (turns.waits_as system t x note w k followed_by turns.may_stop by_priority system t x using (turns.after_waited w))
  finishes-wait from t using note (Got word) begun k h item =
      got-goes system well x from t using note word begun k h item
  finishes-wait from t using note Blocks begun k h item = blocks-goes system well x from t using note begun k h item

  finishes-enter : (from t using server priority : ℕ) (w : Waited) (begun : Option ℕ) (k : Core) → Holds system x from t (told_of Running begun) k
      → turns.item_of system x k ≡ Some (Enter server priority)
      → Goes system x from t (told_of Running begun)
      (turns.enters_as system t x server w k followed_by turns.may_stop by_priority system t x using (turns.after_entered w))
  finishes-enter from t using server priority (Got word) begun k h item =
      enters-goes system well x from t using server priority word begun k h item (begun_there from t begun k h (ap waited_on item))
  finishes-enter from t using server priority Blocks begun k h item = enters-blocks system well x from t using server priority begun k h item

  finishes-leave : (from t using server priority : ℕ) (begun : Option ℕ) (k : Core) → Holds system x from t (told_of Running begun) k
      → turns.item_of system x k ≡ Some (Leave server priority)
      → Goes system x from t (told_of Running begun)
      (turns.frees by_priority system t x server k followed_by turns.moves_on system t x followed_by
      turns.may_stop by_priority system t x using (turns.after_move (turns.move_of system x k) after.GoesOn))
  finishes-leave from t using server priority begun k h item =
      let freed = turns.frees by_priority system t x server k in
      let cause = turns.after_move (turns.move_of system x k) after.GoesOn in
      let a = frees-aside system x t x server k h.waits in
      let holds = holds-same system x from t (told_of Running begun) k freed.core a.same h in
      let there : begun ≡ Some (thread_of freed.core x).since = begun_there from t begun k h (ap waited_on item) ∙ ap (λ m. Some m)
      (sym a.same.since) in
      let moved : turns.move_of system x freed.core ≡ turns.move_of system x k =
      ap (λ (p : Place). move_after (thread_part system x).script (thread_part system x).rounds p) a.same.place
      in
      let none : is_wait (turns.item_of system x freed.core) ≡ false =
      ap (λ (p : Place). is_wait (slice_get (thread_part system x).script p.item)) a.same.place ∙ ap is_wait item
      in
      let P : Moved → Type 0 =
      λ move. Goes system x from t (told_of Running begun)
      (turns.moves system t x (turns.move_of system x freed.core) freed.core followed_by turns.may_stop by_priority system t x using
      (turns.after_move move after.GoesOn))
      in
      let q = subst P moved (finish-goes system well x from t using begun freed.core (turns.move_of system x freed.core) after.GoesOn tt holds there none refl) in
      goes-assoc system x from t (told_of Running begun) freed (turns.moves_on system t x) (turns.may_stop by_priority system t x using cause)
      record {
        last = q.last;
        walks = walks-append x (first system x) t freed.rows _ (told_of Running begun) (told_of Running begun) q.last
            (walks-other x (first system x) t (told_of Running begun) freed.rows a.rows) q.walks;
        holds = q.holds;
        ended = λ before. ended-append x before freed.rows _ (ended-other x before freed.rows a.rows) q.ended;
      }

  finishes-own : (from c t using : ℕ) (item : Option Item) (begun : Option ℕ) (k : Core) → turns.item_of system x k ≡ item
      → Holds system x from t (told_of Running begun) k
      → Goes system x from t (told_of Running begun) (turns.finishes by_priority system c t x using item k)
  finishes-own from c t using (Some (Signal note badge)) begun k e h = finishes-signal from c t using note badge begun k h e
  finishes-own from c t using (Some (Wait note)) begun k e h = finishes-wait from t using note (waited (note_of k note)) begun k h e
  finishes-own from c t using (Some (Compute ticks)) begun k e h =
      finish-goes system well x from t using begun k (turns.move_of system x k) after.GoesOn tt h (begun_there from t begun k h (ap waited_on e))
      (ap is_wait e) refl
  finishes-own from c t using (Some Yield) begun k e h =
      finish-goes system well x from t using begun k (turns.move_of system x k) after.Yields tt h (begun_there from t begun k h (ap waited_on e))
      (ap is_wait e) refl
  finishes-own from c t using (Some (On badges)) begun k e h =
      finish-goes system well x from t using begun k (turns.move_of system x k) after.GoesOn tt h (begun_there from t begun k h (ap waited_on e))
      (ap is_wait e) refl
  finishes-own from c t using (Some Spin) begun k e h =
      finish-goes system well x from t using begun k (turns.move_of system x k) after.GoesOn tt h (begun_there from t begun k h (ap waited_on e))
      (ap is_wait e) refl
  finishes-own from c t using (Some (Enter server priority)) begun k e h =
      finishes-enter from t using server priority (waited (note_of k server)) begun k h e
  finishes-own from c t using (Some (Leave server priority)) begun k e h = finishes-leave from t using server priority begun k h e
  finishes-own from c t using None begun k e h = calm-goes system x after.GoesOn tt from t using begun k h

  after_count-own : (from c t using : ℕ) (begun : Option ℕ) (k : Core) → Holds system x from t (told_of Running begun) k
      → Goes system x from t (told_of Running begun) (turns.after_count by_priority system c t x using k)
  after_count-own from c t using begun k h =
      goes_if system x from t (told_of Running begun) ((thread_of k x).place.left == 0)
      (turns.finishes by_priority system c t x using (turns.item_of system x k) k)
      (turns.may_stop by_priority system t x using after.GoesOn k)
      (finishes-own from c t using (turns.item_of system x k) begun k refl h)
      (calm-goes system x after.GoesOn tt from t using begun k h)

  after_count-other : (from c t y using held : ℕ) (told : Told) (k : Core) → (y == x) ≡ false → k.running ≡ Some (record { thread = y; using = held })
      → Holds system x from t told k → Goes system x from t told (turns.after_count by_priority system c t y using k)
  after_count-other from c t y using held told k e r h =
      goes_if system x from t told ((thread_of k y).place.left == 0)
      (turns.finishes by_priority system c t y using (turns.item_of system y k) k)
      (turns.may_stop by_priority system t y using after.GoesOn k)
      (finishes-other from c t y using held (turns.item_of system y k) told k (is-own y (thread_of k y).place.item (turns.item_of system y k) refl) e r h)
      (goes-aside system x from t told k (turns.may_stop by_priority system t y using after.GoesOn k) h
      (may_stop-aside system x t y using held after.GoesOn k r e))

  counts-own : (from t using : ℕ) (begun : Option ℕ) (k : Core) → Holds system x from t (told_of Running begun) k
      → Holds system x from t (told_of Running begun) (turns.counts (record { thread = x; using = using }) k)
  counts-own from t using begun k h =
      let old = thread_of k x in
      let state : Thread = record old { place = record (old.place) { left = left_after 1 old.place.left } } in
      let running = record k { running = Some (record { thread = x; using = using + 1 }) } in
      record {
        runs = ap (λ b. cond b 1 0) (self x);
        ready = h.ready;
        dated = h.dated;
        waits = h.waits;
        own = (
          under-thread system x begun state running h.own.0.known h.own.0.has h.own.0.notes h.own.0.begins,
          started-thread system x t state running h.own.0.has h.own.1.start h.own.1.since,
        );
      }

  counts-other : (y using : ℕ) (k : Core) → k.running ≡ Some (record { thread = y; using = using }) → (y == x) ≡ false
      → Same system x k (turns.counts (record { thread = y; using = using }) k)
  counts-other y using k r e =
      let old = thread_of k y in
      let state : Thread = record old { place = record (old.place) { left = left_after 1 old.place.left } } in
      let running = record k { running = Some (record { thread = y; using = using + 1 }) } in
      let same : times_running x (Some (record { thread = y; using = using + 1 })) ≡ times_running x k.running = sym (ap (times_running x) r) in
      same-trans system x k running (turns.counts (record { thread = y; using = using }) k)
      (same-running system x (Some (record { thread = y; using = using + 1 })) k same)
      (same-thread system x y state running e)

  pub tick_of-goes : (from c t : ℕ) (o : Option Chosen) (told : Told) (k : Core) → k.running ≡ o → Holds system x from t told k
      → Goes system x from t told (turns.tick_of by_priority system c t o k)
  tick_of-goes from c t None told k r h = goes-aside system x from t told k (silent k) h (aside-silent system x k k (same-refl system x k))
  tick_of-goes from c t (Some chosen) told k r h =
      split from from t told k chosen (λ y. turns.tick_of by_priority system c t (Some (record { thread = y; using = chosen.using })) k) r h
      (λ e. after_count-other from c t chosen.thread (chosen.using + 1) (chosen.using + 1) told (turns.counts chosen k) e refl
      (holds-same system x from t told k (turns.counts chosen k) (counts-other chosen.thread chosen.using k r e) h))
      (λ holds own. after_count-own from c t (chosen.using + 1) told.begun (turns.counts (record { thread = x; using = chosen.using }) k)
      (counts-own from t chosen.using told.begun k holds))

  -- orders, and the thread that gives way
  stops_to_front-aside : (t y using : ℕ) (order : Bool) (k core : Core) → Same system x k core → core.running ≡ Some
      (record { thread = y; using = using }) → (y == x) ≡ false
      → Aside system x k (turns.stops_to_front by_priority system t y (cond order why.Order why.Preempt) using core)
  stops_to_front-aside t y using order k core s r e =
      let a =
      leaves-aside system x t y using using (cond order why.Order why.Preempt) (turns.enters_front by_priority) core
      (λ date c. same-front system x y date c e) r e
      in
      record {
        same = same-trans system x k core
            (turns.stops_to_front by_priority system t y (cond order why.Order why.Preempt) using core).core s a.same;
        rows = a.rows;
      }

  ordered : (t y using : ℕ) (order : Order) (k : Core) → Same system x k (turns.applied t order (turns.charged system y using k))
  ordered t y using order k =
      let charged = turns.charged system y using k in
      same-trans system x k charged (turns.applied t order charged) (charged-aside system x y using k) (same-context system x _ _ charged)

  orders_running-goes : (from t : ℕ) (order : Order) (o : Option Chosen) (told : Told) (k : Core) → k.running ≡ o → Holds system x from t told k
      → Goes system x from t told (turns.orders_running by_priority system t order o k)
  orders_running-goes from t order None told k r h =
      goes-aside system x from t told k (silent (turns.applied t order k)) h
      (aside-silent system x k (turns.applied t order k) (same-context system x _ _ k))
  orders_running-goes from t order (Some chosen) told k r h =
      split from from t told k chosen
      (λ y. turns.orders_running by_priority system t order (Some (record { thread = y; using = chosen.using })) k) r h
      (λ e. goes-aside system x from t told k (turns.orders_running by_priority system t order (Some chosen) k) h
      (aside_if system x k ((turns.part_of system chosen.thread).context == order.context)
      (turns.stops_to_front by_priority system t chosen.thread why.Order chosen.using
      (turns.applied t order (turns.charged system chosen.thread chosen.using k)))
      (silent (turns.applied t order k))
      (stops_to_front-aside t chosen.thread chosen.using true k (turns.applied t order (turns.charged system chosen.thread chosen.using k))
      (ordered t chosen.thread chosen.using order k) r e)
      (aside-silent system x k (turns.applied t order k) (same-context system x _ _ k))))
      (λ holds own. goes_if system x from t (told_of Running told.begun) ((turns.part_of system x).context == order.context)
      (turns.stops_to_front by_priority system t x why.Order chosen.using (turns.applied t order (turns.charged system x chosen.using k)))
      (silent (turns.applied t order k))
      (stops_to_front-goes system x from t chosen.using why.Order told.begun (turns.applied t order (turns.charged system x chosen.using k))
      (plain_order x (first system x) t)
      (holds-same system x from t (told_of Running told.begun) k (turns.applied t order (turns.charged system x chosen.using k))
      (ordered t x chosen.using order k) holds))
      (goes-aside system x from t (told_of Running told.begun) k (silent (turns.applied t order k)) holds
      (aside-silent system x k (turns.applied t order k) (same-context system x _ _ k))))

  pub obeys-goes : (from t : ℕ) (order : Order) (told : Told) (k : Core) → Holds system x from t told k
      → Goes system x from t told (turns.obeys by_priority system t order k)
  obeys-goes from t order told k h =
      goes-then system x from from t told (says (row.Order order.context) k)
      (λ core. turns.orders_running by_priority system t order core.running core)
      (goes-aside system x from t told k (says (row.Order order.context) k) h record { same = same-refl system x k; rows = (tt, tt) })
      (λ last holds. orders_running-goes from t order k.running last k refl holds)

  pub preempts_by-goes : (from t : ℕ) (o : Option Chosen) (best : Option Queued) (told : Told) (k : Core) → k.running ≡ o
      → Holds system x from t told k
      → Goes system x from t told (turns.preempts_by by_priority system t o best k)
  preempts_by-goes from t (Some chosen) (Some best) told k r h =
      split from from t told k chosen
      (λ y. turns.preempts_by by_priority system t (Some (record { thread = y; using = chosen.using })) (Some best) k) r h
      (λ e. goes-aside system x from t told k (turns.preempts_by by_priority system t (Some chosen) (Some best) k) h
      (aside_if system x k (nat_lt (thread_of k chosen.thread).place.priority best.priority)
      (turns.stops_to_front by_priority system t chosen.thread why.Preempt chosen.using (turns.charged system chosen.thread chosen.using k))
      (silent k)
      (stops_to_front-aside t chosen.thread chosen.using false k (turns.charged system chosen.thread chosen.using k)
      (charged-aside system x chosen.thread chosen.using k) r e)
      (aside-silent system x k k (same-refl system x k))))
      (λ holds own. goes_if system x from t (told_of Running told.begun) (nat_lt (thread_of k x).place.priority best.priority)
      (turns.stops_to_front by_priority system t x why.Preempt chosen.using (turns.charged system x chosen.using k))
      (silent k)
      (stops_to_front-goes system x from t chosen.using why.Preempt told.begun (turns.charged system x chosen.using k)
      (plain_preempt x (first system x) t)
      (holds-same system x from t (told_of Running told.begun) k (turns.charged system x chosen.using k)
      (charged-aside system x x chosen.using k) holds))
      (goes-aside system x from t (told_of Running told.begun) k (silent k) holds (aside-silent system x k k (same-refl system x k))))
  preempts_by-goes from t (Some chosen) None told k r h =
      goes-aside system x from t told k (silent k) h (aside-silent system x k k (same-refl system x k))
  preempts_by-goes from t None best told k r h = goes-aside system x from t told k (silent k) h (aside-silent system x k k (same-refl system x k))

  -- the choice
  chooses-other : (t : ℕ) (best : Queued) (k : Core) → k.running ≡ None → first_of k.ready ≡ Some best → (best.thread == x) ≡ false
      → Aside system x k (turns.chooses_of by_priority system t None (Some best) k)
  chooses-other t best k r f e =
      let context = turns.with_chosen_context system t best.thread k in
      let stood = stands best.thread core_standing.TheVariants.Running context in
      let chosen : Option Chosen = Some (record { thread = best.thread; using = 0 }) in
      let running = record stood { running = chosen } in
      let none : ◌≡◌ {A = ℕ} (cond (best.thread == x) 1 0) 0 = ap (λ b. cond b 1 0) e in
      let rest = times_queued-rest x best k.ready f in
      record {
        same =
            same-trans system x k context _ (same-context system x _ _ k)
            (same-trans system x context stood _
            (same-thread system x best.thread (record (thread_of context best.thread) { standing = core_standing.TheVariants.Running }) context e)
            (same-trans system x stood running _ (same-running system x chosen stood (none ∙ sym (ap (times_running x) r)))
            (same-ready system x (rest_of k.ready) running
            (let n : times_queued x (rest_of k.ready) ≡ times_queued x k.ready = omega (arith, rest, none) in n))));
        rows = (e, tt);
      }

  chooses-own : (from t : ℕ) (begun : Option ℕ) (best : Queued) (k : Core) → first_of k.ready ≡ Some best → best.thread ≡ x
      → Holds system x from t (told_of Ready begun) k
      → Holds system x from t (told_of Running begun) (turns.chooses_of by_priority system t None (Some (record best { thread = x })) k).core
  chooses-own from t begun best k f e h =
      let context = turns.with_chosen_context system t x k in
      let u = h.own.0 in
      let under : IsUnderWay system x begun context = record { known = u.known; has = u.has; notes = u.notes; begins = u.begins } in
      let started : IsStarted system x t context = record { start = h.own.1.start; since = h.own.1.since } in
      let rest = times_queued-rest x best k.ready f in
      let one : ◌≡◌ {A = ℕ} (cond (best.thread == x) 1 0) 1 = ap (λ z. cond (z == x) 1 0) e ∙ ap (λ b. cond b 1 0) (self x) in
      let now = under-stands system x begun core_standing.TheVariants.Running context under in
      let then = started-stands system x t core_standing.TheVariants.Running context u.has started in
      record {
        runs = ap (λ b. cond b 1 0) (self x);
        ready = let was = h.ready in omega (arith, rest, one, was);
        dated = h.dated;
        waits = h.waits;
        own = (
          record { known = now.known; has = now.has; notes = now.notes; begins = now.begins },
          record { start = then.start; since = then.since },
        );
      }

  pub chooses_of-goes : (from t : ℕ) (o : Option Chosen) (best : Option Queued) (told : Told) (k : Core) → k.running ≡ o → first_of k.ready ≡ best
      → Holds system x from t told k
      → Goes system x from t told (turns.chooses_of by_priority system t o best k)
  chooses_of-goes from t (Some chosen) best told k r f h =
      goes-aside system x from t told k (silent k) h (aside-silent system x k k (same-refl system x k))
  chooses_of-goes from t None None told k r f h = goes-aside system x from t told k (silent k) h (aside-silent system x k k (same-refl system x k))
  chooses_of-goes from t None (Some best) told k r f h = by (best.thread == x) refl
    where
      by : (b : Bool) → (best.thread == x) ≡ b → Goes system x from t told (turns.chooses_of by_priority system t None (Some best) k)
      by true e =
          let same = equal best.thread x e in
          let one : ◌≡◌ {A = ℕ} (cond (best.thread == x) 1 0) 1 = ap (λ b. cond b 1 0) e in
          let rest = times_queued-rest x best k.ready f in
          let ready : told.standing ≡ Ready = ready_one told.standing (let w = h.ready in omega (arith, w, one, rest)) in
          let P : ℕ → Type 0 = λ z. Goes system x from t told (turns.chooses_of by_priority system t None (Some (record best { thread = z })) k) in
          let Q : Standing → Type 0 =
          λ s. Holds system x from t (told_of s told.begun) k → Goes system x from t (told_of s told.begun)
          (turns.chooses_of by_priority system t None (Some (record best { thread = x })) k)
          in
          subst P (sym same)
          (subst Q (sym ready)
          (λ holds. record {
            last = told_of Running told.begun;
            walks = (told_of Running told.begun, step-run x (first system x) t told.begun, refl);
            ended = λ before. (tt, tt);
            holds = chooses-own from t told.begun best k f same holds;
          })
          h)
      by false e = goes-aside system x from t told k (turns.chooses_of by_priority system t None (Some best) k) h (chooses-other t best k r f e)
