-- Posts, and the threads that they wake: the core stays sound.
use Rattle.std.proofs.Common.{◌≡◌, ℕ, ◌+◌, ◌^◌, ◌<◌, ◌≤◌, ◌≢◌, true, cond, length, set, refl, ap, ◌∙◌, arith}
use Rattle.std.specs.Prelude.{◌==◌, Option, Some, None}
use Rattle.std.proofs.lemmas.Bool.Decides.{nat_tests}
use Rattle.std.proofs.Math.ListN.{length-set}
use Rattle.mcs_ticks.specs.Queue.{by_priority}
use Rattle.mcs_control.specs.Context.{context_woken}
use Rattle.mcs_notify.specs.Note.{Note, posted, after_post}
use Rattle.mcs_notify.specs.declared.posted.Posted.{Posted}
use Rattle.mcs_notify.specs.declared.posted.Posted.TheVariants.{Woke, Held}
use Rattle.mcs_script.specs.declared.moved.Moved.{Moved}
use Rattle.mcs_script.specs.declared.moved.Moved.TheVariants.{Next, RoundEnds, AllDone}
use Rattle.mcs_script.specs.Script.{place_after}
use Rattle.mcs_core.specs.declared.standing.Chosen.{Chosen}
use Rattle.mcs_core.specs.declared.standing.Standing.{Standing}
use Rattle.mcs_core.specs.declared.standing.Standing.TheVariants.{Blocked, Done}
use Rattle.mcs_core.specs.declared.standing.Thread.{Thread}
use Rattle.mcs_system.specs.System.{System, thread_part}
use Rattle.mcs_core.specs.Core.{Core, thread_of, note_of, with_thread, with_note}
use Rattle.mcs_core.specs.Turn.{its_context, date_of, with_woken_context, enters_back, enters_front, given, moves, moves_on, move_of, resumes, wakes, posts_as, posts, frees_as, frees}
use Rattle.mcs_core.specs.stored.Sound.{times_blocked, is_here, Phase, IsPlaced, RunsRight, IsSound}
use Rattle.mcs_core.specs.Places.{times_queued, times_waiting}
use Rattle.mcs_core.proofs.Counts.{times_queued-without, greatest-stands, times_waiting-set, times_waiting-at}
use Rattle.mcs_core.proofs.Soundness.{IsOneEach, itself, placed-same, re_stands, loosened, recontexted, rethreaded, keeps_if, runs-other, runs-context, thread-same}
use Rattle.mcs_core.proofs.Enters.{date-early, enters_back-sound, enters_front-sound}
use Rattle.mcs_core.proofs.Stopping.{place-within, woken-early, woken-budget, reworded}

-- a thread that moves on in its script leaves its context as it is
pub date_moved : (system : System) (t x : ℕ) (core : Core) → date_of system t x (moves_on system t x core).core ≡ date_of system t x core
date_moved system t x core = by (move_of system x core)
  where
    by : (m : Moved) → date_of system t x (moves system t x m core).core ≡ date_of system t x core
    by Next = refl
    by RoundEnds = refl
    by AllDone = refl

-- a thread that waits stands blocked
blocked_from : (s : Standing) (n : ℕ) → n ≡ times_blocked s → 1 ≤ n → s ≡ Blocked
blocked_from s n e h = grind arith

-- who is woken is the first of greatest priority
woken_is : (badge x word : ℕ) (note : Note) → posted badge note ≡ Woke x word → 1 ≤ times_queued x note.waiters
woken_is badge x word note e = grind (arith, greatest-stands note.waiters)

-- a thread that was woken and has left the waiters: it is on its way, and still stands blocked
pub record IsWoken (system : System) (number from : ℕ) (phase : Phase) (x : ℕ) (core : Core) : Type 0 where
  pub sound : IsSound system number from phase (Some (record { thread = x; standing = Done })) core
  pub stands : (thread_of core x).standing ≡ Blocked
  pub placed : IsPlaced system x core

module _ (system : System) (number from : ℕ) (each : IsOneEach system) where
  pub woken-sound : (phase : Phase) (note badge x word : ℕ) (core : Core) → IsSound system number from phase None core → note < length core.notes →
      posted badge (note_of core note) ≡ Woke x word →
      IsWoken system number from phase x (with_note note (after_post (Woke x word) (note_of core note)) core)
  woken-sound phase note badge x word core h l e =
      let waits = woken_is badge x word (note_of core note) e in
      let at = times_waiting-at x note core.notes in
      let blocked : (thread_of core x).standing ≡ Blocked = blocked_from _ (times_waiting x core.notes) (h.blocked x) (omega arith) in
      let here : IsPlaced system x core = h.here x (rw blocked refl) in
      record {
        sound = re_stands system number from phase x Blocked Done core core.running core.ready core.releases (set core.notes note (after_post (Woke x word) (note_of core note)))
            (loosened system number from phase x Blocked core blocked h)
            (λ y. refl) (λ y. refl)
            (λ y. grind (arith, times_queued-without y x (note_of core note).waiters waits, times_waiting-set y note (after_post (Woke x word) (note_of core note)) core.notes l))
            (length-set core.notes note _) refl (λ f. cc) h.dates h.later h.running;
        stands = blocked;
        placed = placed-same system core _ refl x refl here;
      }

  -- the woken thread moves on
  away_from : (phase : Phase) (x : ℕ) (core : Core) → (thread_of core x).standing ≡ Blocked → RunsRight system phase core.running core → (state : Thread) → RunsRight system phase core.running (with_thread x state core)
  away_from phase x core e h state = runs-other system number from phase x state core core.running (λ f. cc) h

  pub context-woken : (phase : Phase) (t x : ℕ) (core : Core) → t ≤ 2 ^ 40 → IsWoken system number from phase x core → IsWoken system number from phase x (with_woken_context system t x core)
  context-woken phase t x core l w =
      let h = w.sound in
      let p = w.placed in
      let now = its_context system x core in
      let i = recontexted system number from phase (thread_part system x).context (Some (record { thread = x; standing = Done })) (context_woken t (its_context system x core)) core h
      p.has (rw h.contexts p.bound) (woken-budget system (thread_part system x).context t now.mode now (h.budgets (thread_part system x).context p.has))
      (keeps_if system number from (Some (record { thread = x; standing = Done })) (thread_part system x).context (context_woken t (its_context system x core)) core (woken-early t now.mode now l))
      (runs-context system number from phase (thread_part system x).context (context_woken t (its_context system x core)) core core.running (others core.running h.running) h.running) in
      record { sound = i; stands = w.stands; placed = i.here x (ap is_here (itself x Done _)) }
    where
      others : (o : Option Chosen) → RunsRight system phase o core → (chosen : Chosen) → o ≡ Some chosen → (thread_part system chosen.thread).context ≢ (thread_part system x).context
      others None r chosen e f = cc
      others (Some other) r chosen e f =
          let known : is_here (cond (x == chosen.thread) Done (thread_of core chosen.thread).standing) ≡ true → chosen.thread < length system.threads = λ q. (w.sound.here chosen.thread q).known in
          grind (arith, nat_tests, r.stands, w.stands, known, each chosen.thread x, w.placed.known)

  -- its state changes, but not how it stands
  changed : (phase : Phase) (x : ℕ) (state : Thread) (core : Core) → IsWoken system number from phase x core → state.standing ≡ (thread_of core x).standing →
      state.place.item < length (thread_part system x).script → IsWoken system number from phase x (with_thread x state core)
  changed phase x state core w e item =
      let p = w.placed in
      let l : x < length core.threads = rw w.sound.threads p.known in
      let same : thread_of (with_thread x state core) x ≡ state = thread-same system number from x x state core l refl in
      record {
        sound = rethreaded system number from phase x Done state core w.sound l (λ f. item) (away_from phase x core w.stands w.sound.running state);
        stands = rw same (e ∙ w.stands);
        placed = record { known = p.known; item = rw same item; bound = p.bound; has = p.has };
      }

  pub given-woken : (phase : Phase) (t x word : ℕ) (core : Core) → IsWoken system number from phase x core → IsWoken system number from phase x (given system t x word core)
  given-woken phase t x word core w = changed phase x _ core w refl w.placed.item

  pub moves-woken : (phase : Phase) (t x : ℕ) (core : Core) → IsWoken system number from phase x core → IsWoken system number from phase x (moves_on system t x core).core
  moves-woken phase t x core w = by (move_of system x core) (place-within system.call (thread_part system x).rounds (thread_part system x).script (thread_of core x).place w.placed.item)
    where
      by : (m : Moved) → (place_after system.call (thread_part system x).script m (thread_of core x).place).item < length (thread_part system x).script →
          IsWoken system number from phase x (moves system t x m core).core
      by Next i = changed phase x _ core w refl i
      by RoundEnds i = changed phase x _ core w refl i
      by AllDone i = w

  pub entered-woken : (phase : Phase) (t x : ℕ) (core : Core) → t ≤ 2 ^ 40 → from ≤ t + 1 → IsWoken system number from phase x core → IsSound system number from phase None (enters_back by_priority x (date_of system t x core) core)
  entered-woken phase t x core l f w =
      enters_back-sound system number from phase x (date_of system t x core) core w.sound (rw w.sound.threads w.placed.known) w.placed.item (date-early system number from t x core l f)
      (away_from phase x core w.stands w.sound.running)

  entered-front : (phase : Phase) (t x : ℕ) (core : Core) → t ≤ 2 ^ 40 → from ≤ t + 1 → IsWoken system number from phase x core → IsSound system number from phase None (enters_front by_priority x (date_of system t x core) core)
  entered-front phase t x core l f w =
      enters_front-sound system number from phase x (date_of system t x core) core w.sound (rw w.sound.threads w.placed.known) w.placed.item (date-early system number from t x core l f)
      (away_from phase x core w.stands w.sound.running)

  resumes-sound : (phase : Phase) (t x : ℕ) (core : Core) → t ≤ 2 ^ 40 → from ≤ t + 1 → IsWoken system number from phase x core → IsSound system number from phase None (resumes by_priority system t x core).core
  resumes-sound phase t x core l f w = entered-woken phase t x _ l f (moves-woken phase t x _ w)

  pub wakes-sound : (phase : Phase) (t x word : ℕ) (core : Core) → t ≤ 2 ^ 40 → from ≤ t + 1 → IsWoken system number from phase x core → IsSound system number from phase None (wakes by_priority system t x word core).core
  wakes-sound phase t x word core l f w =
      resumes-sound phase t x _ l f (given-woken phase t x word _ (context-woken phase t x core l w))

  -- a server is left
  pub frees-sound : (phase : Phase) (t x server : ℕ) (core : Core) → t ≤ 2 ^ 40 → from ≤ t + 1 → server < length core.notes → IsSound system number from phase None core →
      IsSound system number from phase None (frees by_priority system t x server core).core
  frees-sound phase t x server core l f k h = by (posted 1 (note_of core server)) refl
    where
      by : (p : Posted) → posted 1 (note_of core server) ≡ p → IsSound system number from phase None (frees_as by_priority system t server p core).core
      by (Woke y word) e = entered-front phase t y _ l f (moves-woken phase t y _ (context-woken phase t y _ l (woken-sound phase server 1 y word core h k e)))
      by (Held word) e = reworded system number from each phase server word core h k

  -- a post
  pub posts-sound : (phase : Phase) (t note badge : ℕ) (core : Core) → t ≤ 2 ^ 40 → from ≤ t + 1 → note < length core.notes → IsSound system number from phase None core →
      IsSound system number from phase None (posts by_priority system t note badge core).core
  posts-sound phase t note badge core l f k h = by (posted badge (note_of core note)) refl
    where
      by : (p : Posted) → posted badge (note_of core note) ≡ p → IsSound system number from phase None (posts_as by_priority system t note p core).core
      by (Woke x word) e = wakes-sound phase t x word _ l f (woken-sound phase note badge x word core h k e)
      by (Held word) e = reworded system number from each phase note word core h k
