-- Steps that a sound core allows the code: an item takes effect, and its thread stops.
use Rattle.std.proofs.Common.{◌≡◌, ℕ, ◌+◌, ◌^◌, ◌<◌, ◌≤◌, length, refl, ap, ◌∙◌, arith}
use Rattle.std.specs.Prelude.{Option, Some, None}
use Rattle.mcs_ticks.specs.Queue.{by_priority}
use Rattle.mcs_control.specs.Context.{head_amount}
use Rattle.mcs_notify.specs.Note.{waited}
use Rattle.mcs_notify.specs.declared.posted.Waited.{Waited}
use Rattle.mcs_notify.specs.declared.posted.Waited.TheVariants.{Got, Blocks}
use Rattle.mcs_script.specs.declared.item.Item.{Item}
use Rattle.mcs_script.specs.declared.item.Item.TheVariants.{Compute, Signal, Wait, Yield, On, Spin, Enter, Leave}
use Rattle.mcs_core.specs.declared.standing.Chosen.{Chosen}
use Rattle.mcs_core.specs.declared.standing.Standing.TheVariants.{Done}
use Rattle.mcs_system.specs.System.{System, thread_part}
use Rattle.mcs_core.specs.Core.{Core, note_of}
use Rattle.mcs_core.specs.stored.Items.{IsNoted, SignalsFree, CanTakeEffect}
use Rattle.mcs_core.specs.Turn.{its_context, takes_effect, waits_as, enters_as}
use Rattle.mcs_core.specs.stored.Sound.{times_ready, times_pending, times_blocked, Phase, IsFree, CanStop, WakesFree, IsSound}
use Rattle.mcs_core.specs.stored.Sound.Phase.{Between, InTick}
use Rattle.mcs_core.proofs.Soundness.{IsOneEach, itself, placed-same}
use Rattle.mcs_core.proofs.Budgets.{accepted-is, kept-head-most}
use Rattle.mcs_core.proofs.Wakes.{IsWoken, woken-sound, frees-sound}
use Rattle.mcs_core.proofs.Stopping.{moves-sound}
use Rattle.mcs_core.proofs.Ticks.{runner, runner-placed, signals-sound, signals-running, moves-running, got-sound, taken-sound, frees-running}

module _ (system : System) (number from : ℕ) (each : IsOneEach system) where
  free_woken : (phase : Phase) (x : ℕ) (core : Core) → IsWoken system number from phase x core → IsFree system x core
  free_woken phase x core w = record {
    known = rw w.sound.threads w.placed.known;
    placed = w.placed;
    not_ready = w.sound.ready x ∙ ap times_ready (itself x Done _);
    not_pending = w.sound.pending x ∙ ap times_pending (itself x Done _);
  }

  -- whom a post wakes
  pub wakes_free : (phase : Phase) (note badge : ℕ) (core : Core) → note < length core.notes → IsSound system number from phase None core → WakesFree system note badge core
  wakes_free phase note badge core l h x word e = free_woken phase x _ (woken-sound system number from each phase note badge x word core h l e)

  -- the running thread
  free_running : (phase : Phase) (chosen : Chosen) (core : Core) → IsSound system number from phase None core → core.running ≡ Some chosen → IsFree system chosen.thread core
  free_running phase chosen core h e =
      let r = runner system number from each phase chosen core h e in
      let p = runner-placed system number from each phase chosen core h e in
      record {
        known = rw h.threads p.known;
        placed = p;
        not_ready = h.ready chosen.thread ∙ ap times_ready r.stands;
        not_pending = h.pending chosen.thread ∙ ap times_pending r.stands;
      }

  pub can_stop : (chosen : Chosen) (core : Core) → IsSound system number from InTick None core → core.running ≡ Some chosen → CanStop system chosen.thread chosen.using core
  can_stop chosen core h e =
      let r = runner system number from each InTick chosen core h e in
      let u : chosen.using < head_amount (its_context system chosen.thread core) + 1 = r.unspent in
      record { free = free_running InTick chosen core h e; some = r.used; in_head = omega (arith, u); early = r.early }

  -- its item may take effect
  pub can_take_effect : (t : ℕ) (chosen : Chosen) (item : Option Item) (core : Core) → t ≤ 2 ^ 40 → from ≤ t + 1 → IsNoted (length system.notes) item →
      IsSound system number from InTick None core → core.running ≡ Some chosen → CanTakeEffect system number t chosen.thread item core
  can_take_effect t chosen item core l f noted h e =
      let r = runner system number from each InTick chosen core h e in
      record {
        free = free_running InTick chosen core h e;
        not_waiting = h.blocked chosen.thread ∙ ap times_blocked r.stands;
        noted = rw h.notes noted;
        part = noted;
        signals_free = frees item noted;
      }
    where
      frees : (item : Option Item) → IsNoted (length system.notes) item → SignalsFree system number t chosen.thread item core
      frees (Some (Signal note badge)) k =
          let s = signals-sound system number from each number t note badge chosen.thread core l f (rw h.notes k) h in
          let i = signals-running system number from each number t note badge chosen.thread core ∙ e in
          let g = free_running InTick chosen _ s i in
          (wakes_free InTick note badge core (rw h.notes k) h, g.known, g.placed)
      frees (Some (Wait note)) k = tt
      frees (Some (Compute ticks)) k = tt
      frees (Some Yield) k = tt
      frees (Some (On badges)) k = tt
      frees (Some Spin) k = tt
      frees (Some (Enter server priority)) k = tt
      frees (Some (Leave server priority)) k =
          let s = frees-sound system number from each InTick t chosen.thread server core l f (rw h.notes k) h in
          let i = frees-running system number from each t chosen.thread server core ∙ e in
          let g = free_running InTick chosen _ s i in
          (wakes_free InTick server 1 core (rw h.notes k) h, g.known, g.placed)
      frees None k = tt

  -- and after it the thread may stop
  pub can_stop_after : (t : ℕ) (chosen : Chosen) (item : Option Item) (core : Core) → t ≤ 2 ^ 40 → from ≤ t + 1 → IsNoted (length system.notes) item →
      IsSound system number from InTick None core → core.running ≡ Some chosen → CanStop system chosen.thread chosen.using (takes_effect by_priority system number t chosen.thread item core).core
  can_stop_after t chosen (Some (Signal note badge)) core l f k h e =
      let s = signals-sound system number from each number t note badge chosen.thread core l f (rw h.notes k) h in
      let i = signals-running system number from each number t note badge chosen.thread core ∙ e in
      let m = moves-sound system number from each InTick t chosen.thread _ s (runner-placed system number from each InTick chosen _ s i) in
      can_stop chosen _ m (moves-running system number from each t chosen.thread _ ∙ i)
  can_stop_after t chosen (Some (Wait note)) core l f k h e = by (waited (note_of core note))
    where
      by : (w : Waited) → CanStop system chosen.thread chosen.using (waits_as system t chosen.thread note w core).core
      by (Got word) = can_stop chosen _ (got-sound system number from each InTick t note word chosen core h e (rw h.notes k)) (moves-running system number from each t chosen.thread _ ∙ e)
      by Blocks =
          let s = can_stop chosen core h e in
          record {
            free = record { known = s.free.known; placed = placed-same system core _ refl chosen.thread refl s.free.placed; not_ready = s.free.not_ready; not_pending = s.free.not_pending };
            some = s.some;
            in_head = s.in_head;
            early = s.early;
          }
  can_stop_after t chosen (Some (Compute ticks)) core l f k h e =
      can_stop chosen _ (moves-sound system number from each InTick t chosen.thread core h (runner-placed system number from each InTick chosen core h e)) (moves-running system number from each t chosen.thread core ∙ e)
  can_stop_after t chosen (Some Yield) core l f k h e =
      can_stop chosen _ (moves-sound system number from each InTick t chosen.thread core h (runner-placed system number from each InTick chosen core h e)) (moves-running system number from each t chosen.thread core ∙ e)
  can_stop_after t chosen (Some (On badges)) core l f k h e =
      can_stop chosen _ (moves-sound system number from each InTick t chosen.thread core h (runner-placed system number from each InTick chosen core h e)) (moves-running system number from each t chosen.thread core ∙ e)
  can_stop_after t chosen (Some Spin) core l f k h e =
      can_stop chosen _ (moves-sound system number from each InTick t chosen.thread core h (runner-placed system number from each InTick chosen core h e)) (moves-running system number from each t chosen.thread core ∙ e)
  can_stop_after t chosen (Some (Enter server priority)) core l f k h e = by (waited (note_of core server))
    where
      by : (w : Waited) → CanStop system chosen.thread chosen.using (enters_as system t chosen.thread server w core).core
      by (Got word) = can_stop chosen _ (taken-sound system number from each InTick t server word chosen core h e (rw h.notes k)) (moves-running system number from each t chosen.thread _ ∙ e)
      by Blocks =
          let s = can_stop chosen core h e in
          record {
            free = record { known = s.free.known; placed = placed-same system core _ refl chosen.thread refl s.free.placed; not_ready = s.free.not_ready; not_pending = s.free.not_pending };
            some = s.some;
            in_head = s.in_head;
            early = s.early;
          }
  can_stop_after t chosen (Some (Leave server priority)) core l f k h e =
      let s = frees-sound system number from each InTick t chosen.thread server core l f (rw h.notes k) h in
      let i = frees-running system number from each t chosen.thread server core ∙ e in
      let m = moves-sound system number from each InTick t chosen.thread _ s (runner-placed system number from each InTick chosen _ s i) in
      can_stop chosen _ m (moves-running system number from each t chosen.thread _ ∙ i)
  can_stop_after t chosen None core l f k h e = can_stop chosen core h e

  -- the running thread has used at most a budget
  pub runner_small : (chosen : Chosen) (core : Core) → IsSound system number from Between None core → core.running ≡ Some chosen → chosen.using < 2 ^ 40
  runner_small chosen core h e =
      let r = runner system number from each Between chosen core h e in
      let p = runner-placed system number from each Between chosen core h e in
      let b = h.budgets (thread_part system chosen.thread).context p.has in
      let a = accepted-is system.min_budget (its_context system chosen.thread core).config b.accepted in
      let u : chosen.using < head_amount (its_context system chosen.thread core) + 0 = r.unspent in
      let most : head_amount (its_context system chosen.thread core) ≤ (its_context system chosen.thread core).config.budget = kept-head-most (its_context system chosen.thread core).config (its_context system chosen.thread core).budget b.kept in
      omega (arith, u, most, a.within, a.short)
