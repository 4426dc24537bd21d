-- The priority of a thread is that of the server that it entered last, and no ready thread is above the one that runs.
use Rattle.std.proofs.Common.{◌≡◌, ℕ, zero, suc, ◌+◌, ◌<◌, ◌≤◌, Bool, true, false, cond, not, ◌==◌, ◌&&◌, List, [], ◌∷◌, length, Option, Some, None, refl, sym, ap, subst, ◌∙◌, arith}
use Rattle.std.specs.Prelude.{◌||◌, filter}
use Rattle.std.specs.List.{slice_get, AllByRecursion}
use Rattle.mcs_ticks.specs.declared.queue.Queued.{Queued}
use Rattle.mcs_script.specs.declared.item.Item.{Item}
use Rattle.mcs_script.specs.declared.item.Item.TheVariants.{Compute, Signal, Wait, Yield, On, Spin, Enter, Leave}
use Rattle.mcs_script.specs.declared.moved.Moved.{Moved}
use Rattle.mcs_script.specs.declared.moved.Moved.TheVariants.{Next, RoundEnds, AllDone}
use Rattle.mcs_script.specs.declared.place.Place.{Place}
use Rattle.mcs_script.specs.Script.{priority_after, move_after, place_after}
use Rattle.mcs_system.specs.System.{System, thread_part, is_server, note_part}
use Rattle.mcs_system.specs.WellFormed.{IsWellFormed}
use Rattle.mcs_core.specs.Core.{Core, thread_of}
use Rattle.mcs_core.specs.Clock as clocks
use Rattle.mcs_core.specs.Places.{times_queued}
use Rattle.mcs_core.proofs.Clock.{core_shown-first, core_shown-kept}
use Rattle.mcs_laws.proofs.Histories.{takes-time}
use Rattle.mcs_laws.proofs.Places.{sorted-queued}
use Rattle.mcs_server_laws.specs.Nesting.{is_in, inside, inside_after, ScriptsNest}
use Rattle.mcs_server_laws.specs.Exclusion.{is_done, home_of}
use Rattle.mcs_server_laws.specs.Ceiling.{priority_of, place_of, AreCeilings, RunsAbove, NoneCalls, NoneOvertakes}
use Rattle.mcs_server_laws.proofs.Nesting.{after-from, past-from, IsMoved, moved-inside}
use Rattle.mcs_server_laws.proofs.Calm.{IsTop}
use Rattle.mcs_server_laws.proofs.Exclusion.{Good, turn-top}
use Rattle.mcs_server_laws.proofs.Holders.{nested-each, alarms-heard, mails-signalled, good-at}
use Rattle.mcs_server_laws.proofs.Tests.{equal, itself}

-- of a ready thread what is known of its entry
entry-of : (P : Queued → Type 0) (x : ℕ) (ready : List Queued) → AllByRecursion P ready → 1 ≤ times_queued x ready → (entry : Queued) × (entry.thread ≡ x) × P entry
entry-of P x [] all l = absurd (omega (arith, l))
entry-of P x (entry ∷ ready) all l = by (entry.thread == x) refl l (entry-of P x ready all.1)
  where
    by : (b : Bool) → (entry.thread == x) ≡ b → 1 ≤ cond b 1 0 + times_queued x ready
        → (1 ≤ times_queued x ready → (entry : Queued) × (entry.thread ≡ x) × P entry) → (entry : Queued) × (entry.thread ≡ x) × P entry
    by true e m rest = (entry, equal entry.thread x e, all.0)
    by false e m rest = rest (omega (arith, m))

both : (P Q : Queued → Type 0) (ready : List Queued) → AllByRecursion P ready → AllByRecursion Q ready → AllByRecursion (λ (entry : Queued). P entry × Q entry) ready
both P Q [] p q = tt
both P Q (entry ∷ ready) p q = ((p.0, q.0), both P Q ready p.1 q.1)

module _ (system : System) (well : IsWellFormed system) (nest : ScriptsNest system) (ceiling : ℕ → ℕ) (are : AreCeilings system ceiling) where
  abbrev script : ℕ → List Item
  script x = (thread_part system x).script

  abbrev own : ℕ → ℕ
  own x = (thread_part system x).priority

  -- servers that were entered from below
  abbrev IsRising : ℕ → List ℕ → Type 0
  IsRising x [] = Unit {0}
  IsRising x (last ∷ others) = (priority_of system ceiling x others < ceiling last) × IsRising x others

  rising-after : (x : ℕ) (item : Item) (servers : List ℕ) → ((server priority : ℕ) → item ≡ Enter server priority → priority_of system ceiling x servers < ceiling server)
      → IsRising x servers → IsRising x (inside_after item servers)
  rising-after x (Enter server priority) servers h r = (h server priority refl, r)
  rising-after x (Leave server priority) [] h r = r
  rising-after x (Leave server priority) (last ∷ others) h r = r.1
  rising-after x item servers h r = r

  rising : (x i : ℕ) → IsRising x (inside i (script x))
  rising x zero = tt
  rising x (suc i) = by (slice_get (script x) i) refl (rising x i)
    where
      by : (o : Option Item) → slice_get (script x) i ≡ o → IsRising x (inside i (script x)) → IsRising x (inside (suc i) (script x))
      by (Some item) e before =
          subst (IsRising x) (sym (after-from (script x) [] i item e))
          (rising-after x item (inside i (script x)) (λ server priority f. are.above x i server priority (e ∙ ap Some f)) before)
      by None e before = subst (IsRising x) (sym (past-from (script x) [] i e)) before

  -- in a server it has at least that priority, and never less than its own
  in-server : (x server : ℕ) (servers : List ℕ) → IsRising x servers → is_in server servers ≡ true → ceiling server ≤ priority_of system ceiling x servers
  in-server x server [] r e = absurd (cc)
  in-server x server (last ∷ others) r e = by (last == server) refl e (in-server x server others r.1)
    where
      by : (b : Bool) → (last == server) ≡ b → (b || is_in server others) ≡ true → (is_in server others ≡ true → ceiling server ≤ priority_of system ceiling x others) → ceiling server ≤ ceiling last
      by true f g rest = let same = equal last server f in omega (arith, ap ceiling same)
      by false f g rest = omega (arith, rest g, r.0)

  at-least-own : (x : ℕ) (servers : List ℕ) → IsRising x servers → own x ≤ priority_of system ceiling x servers
  at-least-own x [] r = omega arith
  at-least-own x (last ∷ others) r = omega (arith, at-least-own x others r.1, r.0)

  -- the priority of a place
  abbrev Fits : ℕ → ℕ → ℕ → Type 0
  Fits x item priority = priority ≡ priority_of system ceiling x (inside item (script x))

  fits-first : (x : ℕ) → Fits x 0 (own x)
  fits-first x = refl

  behind-priority : (x i before : ℕ) (item : Item) → slice_get (script x) i ≡ Some item → before ≡ priority_of system ceiling x (inside i (script x))
      → priority_after (Some item) before ≡ priority_of system ceiling x (inside_after item (inside i (script x)))
  behind-priority x i before (Enter server priority) e h = are.priorities.given x i server priority e
  behind-priority x i before (Leave server priority) e h = are.priorities.back x i server priority e
  behind-priority x i before (Compute ticks) e h = h
  behind-priority x i before (Signal note badge) e h = h
  behind-priority x i before (Wait note) e h = h
  behind-priority x i before Yield e h = h
  behind-priority x i before (On badges) e h = h
  behind-priority x i before Spin e h = h

  fits-next : (x : ℕ) (item : Item) (place : Place) → slice_get (thread_part system x).script place.item ≡ Some item → Fits x place.item place.priority →
      let later = place_after system.call (thread_part system x).script (move_after (thread_part system x).script (thread_part system x).rounds place) place in
      Fits x later.item later.priority
  fits-next x item place e h =
      by (move_after (script x) (thread_part system x).rounds place)
      (moved-inside (script x) (nested-each system nest x) item system.call (thread_part system x).rounds place e)
    where
      behind : (m : Moved) → inside (place_after system.call (script x) m place).item (script x) ≡ inside_after item (inside place.item (script x))
          → priority_after (slice_get (script x) place.item) place.priority ≡ priority_of system ceiling x (inside (place_after system.call (script x) m place).item (script x))
      behind m f =
          ap (λ (o : Option Item). priority_after o place.priority) e ∙ behind-priority x place.item place.priority item e h ∙ sym (ap (priority_of system ceiling x) f)

      by : (m : Moved) → IsMoved (script x) (nested-each system nest x) item system.call place m
          → Fits x (place_after system.call (script x) m place).item (place_after system.call (script x) m place).priority
      by AllDone f = h
      by Next f = behind Next f
      by RoundEnds f = behind RoundEnds f

  module _ (server : ℕ) (known : server < length system.notes) (is : is_server system server ≡ true) where
    abbrev home : ℕ
    home = (note_part system server).core

    abbrev shown : ℕ → Core
    shown t = clocks.core_shown system (clocks.world system t) home

    good : (t : ℕ) → Good system well (nested-each system nest) Fits fits-next server is (shown t)
    good t = good-at system well nest Fits fits-first fits-next server known is t

    top : (t : ℕ) → IsTop system t (shown t)
    top zero chosen e =
        let none : None ≡ Some chosen = ap (λ (k : Core). k.running) (sym (core_shown-first system home (well.notes server _ known))) ∙ e in
        absurd (cc)
    top (suc t) chosen e =
        subst (IsTop system t) (sym (core_shown-kept system (takes-time system well) t home (well.notes server _ known)))
        (turn-top system well (nested-each system nest) Fits fits-next server is t home (filter (clocks.arrives_at system t home) (clocks.world system t).mails)
        (shown t) (alarms-heard system well home t) (mails-signalled system well home t) (good t)) chosen e

  pub runs-above : RunsAbove system ceiling
  runs-above server t holder chosen kept =
      let g = good server kept.known kept.is t in
      let core = shown server kept.known kept.is t in
      let ready : 1 ≤ times_queued holder core.ready = omega (arith, kept.ready, sorted-queued holder (home_of system server t).ready) in
      let found = entry-of (λ (entry : Queued). (entry.priority ≡ (thread_of core entry.thread).place.priority) × (entry.priority ≤ (thread_of core chosen.thread).place.priority)) holder core.ready
      (both _ _ core.ready g.kept.line.0 (top server kept.known kept.is t chosen kept.runs)) ready
      in
      let within : is_in server (inside (thread_of core holder).place.item (script holder)) ≡ true = inside-is (is_done (thread_of core holder).standing) (is_in server (inside (thread_of core holder).place.item (script holder))) (kept.held.inside holder ∙ itself holder) in
      let above = in-server holder server (inside (thread_of core holder).place.item (script holder)) (rising holder (thread_of core holder).place.item) within in
      let own-entry : found.0.priority ≡ (thread_of core holder).place.priority = found.2.0 ∙ ap (λ x. (thread_of core x).place.priority) found.1 in
      omega (arith, above, own-entry, found.2.1, g.kept.fits holder)
    where
      inside-is : (a b : Bool) → (not a && b) ≡ true → b ≡ true
      inside-is true b e = absurd (cc)
      inside-is false b e = e

  pub none-calls : NoneCalls system ceiling
  none-calls server t holder priority chosen kept e =
      let fit = (good server kept.known kept.is t).kept.fits chosen.thread in
      let below = are.above chosen.thread (place_of system ceiling server t chosen).item server priority e in
      omega (arith, runs-above server t holder chosen kept, fit, below)

  pub none-overtakes : NoneOvertakes system ceiling
  none-overtakes server t holder item priority chosen kept none e =
      let fit = (good server kept.known kept.is t).kept.fits chosen.thread in
      let its-own : (place_of system ceiling server t chosen).priority ≡ own chosen.thread = fit ∙ ap (priority_of system ceiling chosen.thread) none in
      let below = are.above chosen.thread item server priority e in
      omega (arith, runs-above server t holder chosen kept, its-own, below, at-least-own chosen.thread (inside item (script chosen.thread)) (rising chosen.thread item))
