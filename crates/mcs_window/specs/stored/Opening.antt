-- The beginning of each core: its initial state, an empty box, no rows, and the delays of the
-- signals to it.
use Rattle.std.specs.Prelude.{◌≡◌, ℕ, ◌<◌, List, [], length, slice_index, slice_index_or, Vec}
use Rattle.std.specs.declared.alloc.Global.{Global}
use Rattle.mcs_ticks.specs.declared.row.Row.{Row}
use Rattle.mcs_mail.specs.Box.{Content}
use Rattle.mcs_system.specs.System.{System, delay_between}
use Rattle.mcs_core.specs.State.{State, Fits, opening_state}
use Rattle.mcs_window.specs.Desk.{AreEmpty}

-- the initial states of the cores below this number
pub record AreOpening (system : System) (many : ℕ) (states : List State) : Type 0 where
  pub many_are : length states ≡ many
  pub each : (c : ℕ) (x : State) → c < many → slice_index_or states c x ≡ opening_state system c
  pub fit : (c : ℕ) (x : State) → c < many → Fits system (slice_index_or states c x)

pub record AreEmptyBoxes (many : ℕ) (boxes : List Content) : Type 0 where
  pub many_are : length boxes ≡ many
  pub each : (c : ℕ) (x : Content) → c < many → (slice_index_or boxes c x).mails ≡ []

-- a list holds its rows
abbrev pub HasItems : Vec Row Global → List Row → Type 0
HasItems rows held = rows.items ≡ held

abbrev pub AreEmptyRows : ℕ → List (Vec Row Global) → Type 0
AreEmptyRows many rows = AreEmpty HasItems many rows

-- for each home below this number the delay of a signal of each core
pub record AreDelays (system : System) (many : ℕ) (rows : List (List ℕ)) : Type 0 where
  pub many_are : length rows ≡ many
  pub each : (home maker : ℕ) (x : List ℕ) → home < many → maker < 64 →
      slice_index (slice_index_or rows home x) maker ≡ delay_between system maker home
