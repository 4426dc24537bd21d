-- Before the first turn at a moment, idle cores may count their ticks up to it.
use Rattle.std.proofs.Common.{◌≡◌, ℕ, ◌+◌, ◌-◌, ◌<◌, ◌≤◌, List, length, map, max, replicate, refl, sym, ◌∙◌, subst, arith}
use Rattle.std.specs.Prelude.{slice_index, slice_index_or}
use Rattle.std.proofs.lemmas.List.{ext_get_or, get_or-map, length-map, length-replicate}
use Rattle.mcs_mail.specs.Box.{Content}
use Rattle.mcs_system.specs.System.{System}
use Rattle.mcs_system.specs.WellFormed.{IsWellFormed}
use Rattle.mcs_core.specs.Clock.{world, core_at}
use Rattle.mcs_core.specs.Quiet.{AreQuiet}
use Rattle.mcs_core.specs.State.{State, opening_state}
use Rattle.mcs_stretch.specs.Idle.{AreReached, AreIdle, AreSet, IsIdle, IsIdleUntil, OnlyCounts}
use Rattle.mcs_stretch.specs.Inbox.{inbox}
use Rattle.mcs_stretch.proofs.Idle.{idle-passes}
use Rattle.mcs_stretch.proofs.Later.{takes_time}
use Rattle.mcs_window.specs.stored.Cores.{AreAt}
use Rattle.mcs_window.proofs.Holding.{idle-on, idle-back}
use Rattle.mcs_step.specs.declared.calendar.Place.{Place}
use Rattle.mcs_step.specs.stored.Cores.{Cores, AreInStep}
use Rattle.mcs_step.specs.stored.Places.{IsFirst}
use Rattle.mcs_step.proofs.Moved.{below, first-in_time, first-known}
use Rattle.mcs_step.proofs.Opened.{get_or-replicate}
use Rattle.mcs_step.proofs.Still.{no-box, here-at, are-reached, are-idle}

module _ (system : System) (well : IsWellFormed system) (horizon moment : ℕ) (cores : Cores) (kept : AreInStep system horizon moment 0 cores) where
  abbrev front : List ℕ
  front = cores.clocks

  abbrev now : List ℕ
  now = replicate system.cores moment

  before : (c : ℕ) → c < system.cores → slice_index front c ≤ moment
  before c known = (kept.place.left c (omega arith) known).0

  soonest : (c : ℕ) → c < system.cores → moment ≤ slice_index cores.next c
  soonest c known = (kept.place.left c (omega arith) known).1

  at-now : (c : ℕ) → c < system.cores → slice_index now c ≡ moment
  at-now c known = get_or-replicate system.cores c moment known

  rises : (c : ℕ) → c < system.cores → slice_index front c ≤ slice_index now c
  rises c known = let b = before c known in let at = at-now c known in omega arith

  set-now : AreSet system front moment now
  set-now c known = let b = before c known in let at = at-now c known in omega arith

  pub reached : AreReached system front
  reached = are-reached system well horizon moment 0 cores kept

  pub idle : AreIdle system front moment
  idle = are-idle system well horizon moment 0 cores kept moment soonest

  counts : (c : ℕ) → c < system.cores → OnlyCounts system front now c
  counts = idle-passes system (takes_time system well) front now moment reached idle set-now

  idle-now : (b c : ℕ) → c < system.cores → IsIdle system front b c → IsIdle system now b c
  idle-now b c known = idle-on system c front now b (rises c known) (counts c known)

  idle-then : (b c : ℕ) → c < system.cores → IsIdle system now b c → IsIdle system front b c
  idle-then b c known =
      let first : IsIdle system front (slice_index now c) c = subst (λ t. IsIdle system front t c) (sym (at-now c known)) (idle c known) in
      idle-back system c front now b (rises c known) (counts c known) first

  -- the mail of a core, by the clocks that lag and by the others
  box-then : (c : ℕ) (box : Content) → c < system.cores → (slice_index_or cores.boxes c box).mails ≡ inbox system c (slice_index front c) front
  box-then c box known = (here-at system well horizon moment 0 cores kept c known (opening_state system c) box).box_is

  box-now : (c : ℕ) (box : Content) → c < system.cores → (slice_index_or cores.boxes c box).mails ≡ inbox system c (slice_index now c) now
  box-now c box known = box-then c box known ∙ sym (counts c known).same_mail

  -- a core is busy at a moment up to the horizon at which it is next busy
  busy-then : (c : ℕ) → c < system.cores → (next : ℕ) → slice_index cores.next c ≡ next → next ≤ horizon → ¬ IsIdle system front (next + 1) c
  busy-then c known next is l all =
      kept.busy c no-box known (omega arith)
      (let P : ℕ → Type 0 = λ t. AreQuiet system c (slice_index front c) (slice_index_or cores.boxes c no-box).mails (core_at system (world system (slice_index front c)) c) (t + 1 - slice_index front c) in
      subst P (sym is)
      (subst (λ ms. AreQuiet system c (slice_index front c) ms (core_at system (world system (slice_index front c)) c) (next + 1 - slice_index front c)) (sym (box-then c no-box known)) all))

  -- idle time ends at the first busy turn
  pub idle-until : (place : Place) → IsFirst cores.next place → IsIdleUntil system now (horizon + 1) place.moment
  idle-until place first =
      record {
        in_time = first-in_time system well horizon moment 0 cores kept place first;
        idle = λ c known. idle-now place.moment c known (are-idle system well horizon moment 0 cores kept place.moment (below system well horizon moment 0 cores kept place first) c known);
        busy = λ l all.
            (let in_time : place.moment ≤ horizon = omega arith in
            let known = first-known system well horizon moment 0 cores kept place first in_time in
            busy-then place.core known place.moment first.is in_time (idle-then (place.moment + 1) place.core known (all place.core known)));
      }

  -- the states of the cores at their clocks
  pub stand : AreAt system front cores.states
  stand c state known = (here-at system well horizon moment 0 cores kept c known state no-box).state_is

  -- when all have counted their ticks
  pub all-now : map (λ clock. max clock moment) front ≡ now
  all-now =
      ext_get_or 0 (map (λ clock. max clock moment) front) now
      (length-map front (λ clock. max clock moment) ∙ kept.clocks_of ∙ sym (length-replicate system.cores moment))
      (λ c p. let long = length-map front (λ clock. max clock moment) in let many = kept.clocks_of in
      let known : c < system.cores = omega arith in
      get_or-map (λ clock. max clock moment) front c 0 0 (omega arith)
      ∙ sym (set-now c known))

  pub settled : (states : List State) → length states ≡ length cores.states → AreAt system now states → AreInStep system horizon moment 0 (record cores { clocks = now; states = states })
  settled states many at =
      record {
        clocks_of = length-replicate system.cores moment;
        states_of = many ∙ kept.states_of;
        boxes_of = kept.boxes_of;
        next_of = kept.next_of;
        few = kept.few;
        known = kept.known;
        in_time = kept.in_time;
        over = kept.over;
        here = λ c state box known. record { reached = (counts c known).reached; state_is = at c state known; box_is = box-now c box known };
        quiet = λ c box known. subst (λ ms. AreQuiet system c (slice_index now c) ms (core_at system (world system (slice_index now c)) c) (slice_index cores.next c - slice_index now c)) (sym (box-now c box known))
            (idle-now (slice_index cores.next c) c known
            (subst (λ ms. AreQuiet system c (slice_index front c) ms (core_at system (world system (slice_index front c)) c) (slice_index cores.next c - slice_index front c)) (box-then c box known) (kept.quiet c box known)));
        busy = λ c box known l all. busy-then c known (slice_index cores.next c) refl l
            (idle-then (slice_index cores.next c + 1) c known
            (subst (λ ms. AreQuiet system c (slice_index now c) ms (core_at system (world system (slice_index now c)) c) (slice_index cores.next c + 1 - slice_index now c)) (box-now c box known) all));
        ends = kept.ends;
        rest = kept.rest;
        place = record {
          done = λ c l. absurd (omega arith);
          left = λ c _ known. (let at = at-now c known in omega arith, soonest c known);
        };
      }
