-- The views of each core, after those of the first contexts were dealt out.
use Rattle.std.specs.Prelude.{◌≡◌, ℕ, ◌<◌, true, None, List, [], drop, map, length, slice_index_or}
use Rattle.std.specs.List.{range_with_len}
use Rattle.std.specs.declared.alloc.Global.{Global}
use Rattle.std.specs.declared.collections.VecDeque.{VecDeque}
use Rattle.mcs_control.specs.declared.view.ContextView.{ContextView}
use Rattle.mcs_system.specs.System.{System}
use Rattle.mcs_core.specs.State.{State}
use Rattle.mcs_core.specs.Views.{views_from, views_of}
use Rattle.mcs_window.specs.Views.{view_in}
use Rattle.mcs_window.specs.declared.slot.Slot.{Slot}
use Rattle.mcs_window.specs.declared.slot.Slot.TheVariants.{Here, Away}

-- a placeholder for a state that is not there
abbrev pub no_state : State
no_state =
    record {
      number = 0;
      clock = 0;
      core = record { running = None; threads = []; ready = []; releases = []; contexts = []; notes = [] };
      orders = [];
      alarms = [];
      delays = [];
      failed = true;
    }

-- the state of the core in a slot
abbrev pub state_in : Slot → State
state_in (Here spare state) = state.value
state_in (Away loan) = no_state

pub record AreQueued (system : System) (states : List State) (dealt : ℕ)
    (queues : List (VecDeque ContextView Global)) : Type 0 where
  pub many : length queues ≡ system.cores
  pub each : (c : ℕ) (q : VecDeque ContextView Global) (x : State) → c < system.cores →
      (slice_index_or queues c q).items
      ≡ views_from system dealt (slice_index_or states c x).core.running
      (drop dealt (slice_index_or states c x).core.contexts)

-- the views of the cores below this number, before any was dealt out
pub record AreBegun (system : System) (states : List State) (begun : ℕ)
    (queues : List (VecDeque ContextView Global)) : Type 0 where
  pub many : length queues ≡ begun
  pub each : (c : ℕ) (q : VecDeque ContextView Global) (x : State) → c < begun → (slice_index_or queues c q).items
      ≡ views_of system (slice_index_or states c x).core

-- the views of the contexts below this number were dealt out
pub record AreDealt (system : System) (states : List State) (dealt : ℕ) (queues : List (VecDeque ContextView Global))
    (views : List ContextView) : Type 0 where
  pub left : AreQueued system states dealt queues
  pub are : (x : State) → views ≡ map (view_in system (λ c. (slice_index_or states c x).core)) (range_with_len 0 dealt)
