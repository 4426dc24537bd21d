-- The end of the tick: the core stays sound.
use Rattle.std.proofs.Common.{◌≡◌, ℕ, ◌+◌, ◌^◌, ◌<◌, ◌≤◌, Bool, true, false, cond, [], ◌∷◌, length, set, refl, subst, ◌∙◌, arith}
use Rattle.std.specs.Prelude.{◌==◌, Option, Some, None}
use Rattle.std.specs.List.{slice_get}
use Rattle.std.proofs.lemmas.Bool.Decides.{nat_tests}
use Rattle.std.proofs.Math.ListN.{length-set}
use Rattle.mcs_ticks.specs.Queue.{by_priority}
use Rattle.mcs_ticks.specs.declared.row.Why.{Why}
use Rattle.mcs_ticks.specs.declared.row.Why.TheVariants as why
use Rattle.mcs_control.specs.Context.{head_amount}
use Rattle.mcs_notify.specs.Note.{waited, after_wait}
use Rattle.mcs_notify.specs.declared.posted.Waited.{Waited}
use Rattle.mcs_notify.specs.declared.posted.Waited.TheVariants.{Got, Blocks}
use Rattle.mcs_script.specs.declared.item.Item.{Item}
use Rattle.mcs_script.specs.declared.item.Item.TheVariants.{Compute, Signal, Wait, Yield, On, Spin, Enter, Leave}
use Rattle.mcs_script.specs.declared.moved.Moved.{Moved}
use Rattle.mcs_script.specs.declared.moved.Moved.TheVariants.{Next, RoundEnds, AllDone}
use Rattle.mcs_core.specs.declared.standing.AfterItem.{AfterItem}
use Rattle.mcs_core.specs.declared.standing.AfterItem.TheVariants as after
use Rattle.mcs_core.specs.declared.standing.Chosen.{Chosen}
use Rattle.mcs_core.specs.declared.standing.Standing.TheVariants.{Blocked, Running, Done}
use Rattle.mcs_system.specs.System.{System, thread_part, note_part}
use Rattle.mcs_core.specs.Core.{Core, thread_of, note_of, with_note, off}
use Rattle.mcs_core.specs.stored.Items.{IsNoted}
use Rattle.mcs_core.specs.Turn.{its_context, queued, moves_on, move_of, posts, mail_to, signals, waits_as, enters_as, frees, after_waited, after_entered, may_stop, after_move, finishes, after_count, counts, item_of, tick_of, tick, stops_to_back}
use Rattle.mcs_core.specs.stored.Sound.{Phase, IsPlaced, IsRunning, RunsRight, IsSound}
use Rattle.mcs_core.specs.stored.Sound.Phase.{Between, InTick, PastTick}
use Rattle.mcs_core.proofs.Counts.{times_queued-append, times_waiting-set}
use Rattle.mcs_core.proofs.Soundness.{IsOneEach, placed-same, re_stands, re_runs, loosened}
use Rattle.mcs_core.proofs.Budgets.{accepted-is, kept-head}
use Rattle.mcs_core.proofs.Stopping.{off-sound, stops-sound, stops_to_back-sound, replaced, moves-sound, given-sound, reworded}
use Rattle.mcs_core.proofs.Wakes.{posts-sound, frees-sound}

-- a thread that continues, ends or yields
abbrev pub DoesNotBlock : AfterItem → Type 0
DoesNotBlock after.Blocks = ⊥
DoesNotBlock after.Calls = ⊥
DoesNotBlock after.GoesOn = Unit {0}
DoesNotBlock after.Ends = Unit {0}
DoesNotBlock after.Yields = Unit {0}

module _ (system : System) (number from : ℕ) (each : IsOneEach system) where
  -- the running thread stays the same one
  pub moves-running : (t x : ℕ) (core : Core) → (moves_on system t x core).core.running ≡ core.running
  moves-running t x core = grind arith

  pub posts-running : (t note badge : ℕ) (core : Core) → (posts by_priority system t note badge core).core.running ≡ core.running
  posts-running t note badge core = grind arith

  pub runner : (phase : Phase) (chosen : Chosen) (core : Core) → IsSound system number from phase None core → core.running ≡ Some chosen → IsRunning system phase chosen core
  runner phase chosen core h e = let P : Option Chosen → Type 0 = λ o. RunsRight system phase o core in subst P e h.running

  pub runner-placed : (phase : Phase) (chosen : Chosen) (core : Core) → IsSound system number from phase None core → core.running ≡ Some chosen → IsPlaced system chosen.thread core
  runner-placed phase chosen core h e = let r = runner phase chosen core h e in h.here chosen.thread (rw r.stands refl)

  -- the head of the running thread's context is some
  pub runner-head : (phase : Phase) (chosen : Chosen) (core : Core) → IsSound system number from phase None core → core.running ≡ Some chosen → 1 ≤ head_amount (its_context system chosen.thread core)
  runner-head phase chosen core h e =
      let p = runner-placed phase chosen core h e in
      let b = h.budgets (thread_part system chosen.thread).context p.has in
      kept-head (its_context system chosen.thread core).config (its_context system chosen.thread core).budget (accepted-is system.min_budget _ b.accepted).some b.kept

  -- the running thread counts a tick
  pub counts-sound : (chosen : Chosen) (core : Core) → IsSound system number from Between None core → core.running ≡ Some chosen → IsSound system number from InTick None (counts chosen core)
  counts-sound chosen core h e =
      let r = runner Between chosen core h e in
      let p = runner-placed Between chosen core h e in
      let u : chosen.using < head_amount (its_context system chosen.thread core) + 0 = r.unspent in
      replaced system number from each InTick chosen.thread _ (record core { running = Some (record { thread = chosen.thread; using = chosen.using + 1 }) })
      (re_runs system number from Between InTick None core (Some (record { thread = chosen.thread; using = chosen.using + 1 })) (λ y. refl) h
      (record { stands = r.stands; used = omega arith; unspent = omega (arith, u); early = r.early }))
      (rw h.threads p.known) refl (λ f. p.item)

  -- the running thread waits: it joins the waiters, or is given its word

  pub blocks-sound : (phase : Phase) (note x : ℕ) (core : Core) → IsSound system number from phase None core → (thread_of core x).standing ≡ Running → note < length core.notes →
      IsSound system number from phase (Some (record { thread = x; standing = Blocked })) (with_note note (after_wait Blocks (queued x core) (note_of core note)) core)
  blocks-sound phase note x core h e l =
      re_stands system number from phase x Running Blocked core core.running core.ready core.releases (set core.notes note (after_wait Blocks (queued x core) (note_of core note)))
      (loosened system number from phase x Running core e h)
      (λ y. refl) (λ y. refl)
      (λ y. grind (arith, times_queued-append y (note_of core note).waiters (queued x core), times_waiting-set y note (after_wait Blocks (queued x core) (note_of core note)) core.notes l))
      (length-set core.notes note _) refl (λ f. cc) h.dates h.later h.running

  pub got-sound : (phase : Phase) (t note word : ℕ) (chosen : Chosen) (core : Core) → IsSound system number from phase None core → core.running ≡ Some chosen → note < length core.notes →
      IsSound system number from phase None (waits_as system t chosen.thread note (Got word) core).core
  got-sound phase t note word chosen core h e l =
      let first = reworded system number from each phase note 0 core h l in
      let second = given-sound system number from each phase t chosen.thread word _ first (runner-placed phase chosen _ first e) in
      moves-sound system number from each phase t chosen.thread _ second (runner-placed phase chosen _ second e)

  -- the running thread takes a server
  pub taken-sound : (phase : Phase) (t server word : ℕ) (chosen : Chosen) (core : Core) → IsSound system number from phase None core → core.running ≡ Some chosen → server < length core.notes →
      IsSound system number from phase None (enters_as system t chosen.thread server (Got word) core).core
  taken-sound phase t server word chosen core h e l =
      let first = reworded system number from each phase server 0 core h l in
      moves-sound system number from each phase t chosen.thread _ first (runner-placed phase chosen _ first e)

  -- and leaves one
  pub frees-running : (t x server : ℕ) (core : Core) → (frees by_priority system t x server core).core.running ≡ core.running
  frees-running t x server core = grind arith

  -- a signal, and what else does not block
  pub signals-sound : (c t note badge : ℕ) (x : ℕ) (core : Core) → t ≤ 2 ^ 40 → from ≤ t + 1 → note < length core.notes → IsSound system number from InTick None core →
      IsSound system number from InTick None (signals by_priority system c t x note badge core).core
  signals-sound c t note badge x core l f k h = by ((note_part system note).core == c)
    where
      by : (b : Bool) → IsSound system number from InTick None (cond b (posts by_priority system t note badge core) (record { core = core; rows = []; mails = mail_to system c t note badge ∷ [] })).core
      by true = posts-sound system number from each InTick t note badge core l f k h
      by false = h

  pub signals-running : (c t note badge x : ℕ) (core : Core) → (signals by_priority system c t x note badge core).core.running ≡ core.running
  signals-running c t note badge x core = grind (arith, posts-running t note badge core)

  -- at most one stop, of a thread that did not block
  pub may_stop-sound : (c t : ℕ) (chosen : Chosen) (cause : AfterItem) (core : Core) → t ≤ 2 ^ 40 → from ≤ t + 1 → IsSound system number from InTick None core → core.running ≡ Some chosen → DoesNotBlock cause →
      IsSound system number from PastTick None (may_stop by_priority system t chosen.thread chosen.using cause core).core
  may_stop-sound c t chosen cause core l f h e n = by cause n
    where
      r : IsRunning system InTick chosen core
      r = runner InTick chosen core h e

      p : IsPlaced system chosen.thread core
      p = runner-placed InTick chosen core h e

      gone : IsSound system number from PastTick (Some (record { thread = chosen.thread; standing = Done })) (off core)
      gone = off-sound system number from each InTick PastTick chosen.thread chosen.using Running Done core (loosened system number from InTick chosen.thread Running core r.stands h) refl refl refl refl refl

      back : (k : ℕ) (cause : Why) → 1 ≤ k → IsSound system number from PastTick None (stops_to_back by_priority system t chosen.thread cause k core).core
      back k cause some = stops_to_back-sound system number from each PastTick t chosen.thread k cause core l f gone p some

      stays : (chosen.using == head_amount (its_context system chosen.thread core)) ≡ false → IsSound system number from PastTick None core
      stays f =
          let u : chosen.using < head_amount (its_context system chosen.thread core) + 1 = r.unspent in
          re_runs system number from InTick PastTick None core core.running (λ y. refl) h
          (rw e (record { stands = r.stands; used = r.used; unspent = grind (arith, nat_tests, f, u); early = r.early }))

      spent : (b : Bool) → (chosen.using == head_amount (its_context system chosen.thread core)) ≡ b →
          IsSound system number from PastTick None (cond b (stops_to_back by_priority system t chosen.thread why.Spent chosen.using core) (record { core = core; rows = []; mails = [] })).core
      spent true f = back chosen.using why.Spent r.used
      spent false f = stays f

      by : (cause : AfterItem) → DoesNotBlock cause → IsSound system number from PastTick None (may_stop by_priority system t chosen.thread chosen.using cause core).core
      by after.Ends n = stops-sound system number from each PastTick t chosen.thread chosen.using why.Done Done core gone p refl refl refl r.used
      by after.Blocks n = absurd n
      by after.Calls n = absurd n
      by after.Yields n = back (head_amount (its_context system chosen.thread core)) why.Yield (runner-head InTick chosen core h e)
      by after.GoesOn n = spent (chosen.using == head_amount (its_context system chosen.thread core)) refl

  -- the stop of a thread that blocked
  pub blocked-sound : (c t note : ℕ) (chosen : Chosen) (core : Core) → IsSound system number from InTick None core → core.running ≡ Some chosen → note < length core.notes →
      IsSound system number from PastTick None (may_stop by_priority system t chosen.thread chosen.using after.Blocks (waits_as system t chosen.thread note Blocks core).core).core
  blocked-sound c t note chosen core h e l =
      let r = runner InTick chosen core h e in
      let p = runner-placed InTick chosen core h e in
      let waits = blocks-sound InTick note chosen.thread core h r.stands l in
      let gone = off-sound system number from each InTick PastTick chosen.thread chosen.using Blocked Blocked _ waits refl refl refl refl refl in
      stops-sound system number from each PastTick t chosen.thread chosen.using why.Wait Blocked (with_note note (after_wait Blocks (queued chosen.thread core) (note_of core note)) core) gone
      (placed-same system core _ refl chosen.thread refl p) refl refl refl r.used

  -- the same of one that waits for a server
  pub calling-sound : (c t server : ℕ) (chosen : Chosen) (core : Core) → IsSound system number from InTick None core → core.running ≡ Some chosen → server < length core.notes →
      IsSound system number from PastTick None (may_stop by_priority system t chosen.thread chosen.using after.Calls (enters_as system t chosen.thread server Blocks core).core).core
  calling-sound c t server chosen core h e l =
      let r = runner InTick chosen core h e in
      let p = runner-placed InTick chosen core h e in
      let waits = blocks-sound InTick server chosen.thread core h r.stands l in
      let gone = off-sound system number from each InTick PastTick chosen.thread chosen.using Blocked Blocked _ waits refl refl refl refl refl in
      stops-sound system number from each PastTick t chosen.thread chosen.using why.Call Blocked (with_note server (after_wait Blocks (queued chosen.thread core) (note_of core server)) core) gone
      (placed-same system core _ refl chosen.thread refl p) refl refl refl r.used

  moved-never : (m : Moved) (cause : AfterItem) → DoesNotBlock cause → DoesNotBlock (after_move m cause)
  moved-never Next cause n = n
  moved-never RoundEnds cause n = n
  moved-never AllDone cause n = tt

  -- the finished item takes effect, and at most one stop follows
  pub finishes-sound : (c t : ℕ) (chosen : Chosen) (item : Option Item) (core : Core) → t ≤ 2 ^ 40 → from ≤ t + 1 → IsNoted (length system.notes) item → IsSound system number from InTick None core → core.running ≡ Some chosen →
      IsSound system number from PastTick None (finishes by_priority system c t chosen.thread chosen.using item core).core
  finishes-sound c t chosen (Some (Signal note badge)) core l f k h e =
      let first = signals-sound c t note badge chosen.thread core l f (rw h.notes k) h in
      let runs = signals-running c t note badge chosen.thread core ∙ e in
      let second = moves-sound system number from each InTick t chosen.thread _ first (runner-placed InTick chosen _ first runs) in
      may_stop-sound c t chosen _ _ l f second (moves-running t chosen.thread _ ∙ runs) (moved-never (move_of system chosen.thread core) after.GoesOn tt)
  finishes-sound c t chosen (Some (Wait note)) core l f k h e = by (waited (note_of core note))
    where
      by : (w : Waited) → IsSound system number from PastTick None (may_stop by_priority system t chosen.thread chosen.using (after_waited w) (waits_as system t chosen.thread note w core).core).core
      by (Got word) = may_stop-sound c t chosen after.GoesOn _ l f (got-sound InTick t note word chosen core h e (rw h.notes k)) (moves-running t chosen.thread _ ∙ e) tt
      by Blocks = blocked-sound c t note chosen core h e (rw h.notes k)
  finishes-sound c t chosen (Some (Compute ticks)) core l f k h e =
      may_stop-sound c t chosen _ _ l f (moves-sound system number from each InTick t chosen.thread core h (runner-placed InTick chosen core h e)) (moves-running t chosen.thread core ∙ e) (moved-never (move_of system chosen.thread core) after.GoesOn tt)
  finishes-sound c t chosen (Some Yield) core l f k h e =
      may_stop-sound c t chosen _ _ l f (moves-sound system number from each InTick t chosen.thread core h (runner-placed InTick chosen core h e)) (moves-running t chosen.thread core ∙ e) (moved-never (move_of system chosen.thread core) after.Yields tt)
  finishes-sound c t chosen (Some (On badges)) core l f k h e =
      may_stop-sound c t chosen _ _ l f (moves-sound system number from each InTick t chosen.thread core h (runner-placed InTick chosen core h e)) (moves-running t chosen.thread core ∙ e) (moved-never (move_of system chosen.thread core) after.GoesOn tt)
  finishes-sound c t chosen (Some Spin) core l f k h e =
      may_stop-sound c t chosen _ _ l f (moves-sound system number from each InTick t chosen.thread core h (runner-placed InTick chosen core h e)) (moves-running t chosen.thread core ∙ e) (moved-never (move_of system chosen.thread core) after.GoesOn tt)
  finishes-sound c t chosen (Some (Enter server priority)) core l f k h e = by (waited (note_of core server))
    where
      by : (w : Waited) → IsSound system number from PastTick None (may_stop by_priority system t chosen.thread chosen.using (after_entered w) (enters_as system t chosen.thread server w core).core).core
      by (Got word) = may_stop-sound c t chosen after.GoesOn _ l f (taken-sound InTick t server word chosen core h e (rw h.notes k)) (moves-running t chosen.thread _ ∙ e) tt
      by Blocks = calling-sound c t server chosen core h e (rw h.notes k)
  finishes-sound c t chosen (Some (Leave server priority)) core l f k h e =
      let first = frees-sound system number from each InTick t chosen.thread server core l f (rw h.notes k) h in
      let runs = frees-running t chosen.thread server core ∙ e in
      let second = moves-sound system number from each InTick t chosen.thread _ first (runner-placed InTick chosen _ first runs) in
      may_stop-sound c t chosen _ _ l f second (moves-running t chosen.thread _ ∙ runs) (moved-never (move_of system chosen.thread core) after.GoesOn tt)
  finishes-sound c t chosen None core l f k h e = may_stop-sound c t chosen after.GoesOn core l f h e tt

  -- the notifications of all items are the system's
  abbrev pub AreNoted : Type 0
  AreNoted = (x i : ℕ) → IsNoted (length system.notes) (slice_get (thread_part system x).script i)

  -- no thread runs: nothing happens
  idle-sound : (core : Core) → IsSound system number from Between None core → core.running ≡ None → IsSound system number from PastTick None core
  idle-sound core h e = re_runs system number from Between PastTick None core core.running (λ y. refl) h (rw e tt)

  pub tick-sound : (c t : ℕ) (core : Core) → t ≤ 2 ^ 40 → from ≤ t + 1 → AreNoted → IsSound system number from Between None core → IsSound system number from PastTick None (tick by_priority system c t core).core
  tick-sound c t core l f noted h = by core.running refl
    where
      counted : (chosen : Chosen) → IsSound system number from InTick None (counts chosen core) → IsSound system number from PastTick None (after_count by_priority system c t chosen.thread (chosen.using + 1) (counts chosen core)).core
      counted chosen i = ends ((thread_of (counts chosen core) chosen.thread).place.left == 0)
        where
          ends : (b : Bool) → IsSound system number from PastTick None (cond b (finishes by_priority system c t chosen.thread (chosen.using + 1) (item_of system chosen.thread (counts chosen core)) (counts chosen core)) (may_stop by_priority system t chosen.thread (chosen.using + 1) after.GoesOn (counts chosen core))).core
          ends true = finishes-sound c t (record { thread = chosen.thread; using = chosen.using + 1 }) (item_of system chosen.thread (counts chosen core)) (counts chosen core) l f (noted chosen.thread (thread_of (counts chosen core) chosen.thread).place.item) i refl
          ends false = may_stop-sound c t (record { thread = chosen.thread; using = chosen.using + 1 }) after.GoesOn (counts chosen core) l f i refl tt

      by : (o : Option Chosen) → core.running ≡ o → IsSound system number from PastTick None (tick_of by_priority system c t o core).core
      by None e = idle-sound core h e
      by (Some chosen) e = counted chosen (counts-sound chosen core h e)
